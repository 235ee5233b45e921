-- `is_free` is true of exactly the free blocks. `choose` finds the free block that serves a request. At most one block serves it.
use Rattle.std.proofs.Common.{◌≡◌, ◌⊎◌, inl, inr, refl, sym, ◌∙◌, ap, ℕ, zero, suc, ◌*◌, ◌/◌, ◌%◌, ◌^◌, ◌<◌, ◌≤◌, Bool, true, false, not, Option, Some, None, eq-eqb, arith}
use Rattle.std.specs.Prelude.{◌==◌, ◌&&◌, ◌||◌, nat_le, if◌then◌else◌, is_some, MatchOption}
use Rattle.std.specs.Option.{option_and_then, option_map}
use Rattle.std.proofs.Math.Nat.{div-lt_iff_lt-mul}
use Rattle.std.proofs.lemmas.Nat.{pow_pos}
use Rattle.std.proofs.lemmas.Bool.{false≢true, both_ways, and_parts, and_from, or_cases, or_left, or_right, not-true, not_from_false, leb-true, le-leb, eqb-true, cases_lt, cases_eq}
use Rattle.model_core.specs.Blocks.{Block, block, IsFree, IsChoice, IsWithout}
use Rattle.model_core.specs.Numbered.{number_at, is_clear, IsOpen}
use Rattle.model_core.specs.Choice.{found_or, least, is_available, is_free, first_free, first_order}
use Rattle.model_core.specs.BlockLaws.{FreeIsTested, ChoiceIsFound, OneChoice}
use Rattle.model_core.proofs.BlocksByNumber.{number_is, free_is_open, open_is_free}

-- i is the least number that passes the test, and it is below n
abbrev pub IsLeast : (ℕ → Bool) → ℕ → ℕ → Type 0
IsLeast p n i = (i < n) × (p i ≡ true) × ((m : ℕ) → m < i → p m ≡ false)

abbrev pub NonePasses : (ℕ → Bool) → ℕ → Type 0
NonePasses p n = (m : ℕ) → m < n → p m ≡ false

pub least_says : (p : ℕ → Bool) (n : ℕ) → MatchOption (least p n) (NonePasses p n) (IsLeast p n)
least_says p zero = λ m lt. absurd (omega arith)
least_says p (suc n) = go (least p n) (least_says p n)
  where
    here : (b : Bool) → p n ≡ b → NonePasses p n → MatchOption (if b then Some n else None) (NonePasses p (suc n)) (IsLeast p (suc n))
    here true e below = (omega arith, e, below)
    here false e below = λ m lt. sort m lt (cases_eq m n)
      where
        sort : (m : ℕ) → m < suc n → (m ≡ n) ⊎ (m ≡ n → ⊥) → p m ≡ false
        sort m lt (inl same) = ap p same ∙ e
        sort m lt (inr ne) = below m (omega arith)

    go : (o : Option ℕ) → MatchOption o (NonePasses p n) (IsLeast p n) → MatchOption (found_or p n o) (NonePasses p (suc n)) (IsLeast p (suc n))
    go None below = here (p n) refl below
    go (Some i) (lt, pass, below) = (omega arith, pass, below)

-- if a number below n passes the test, `least` finds a number
pub least_found : (p : ℕ → Bool) (n m : ℕ) → m < n → p m ≡ true → is_some (least p n) ≡ true
least_found p n m lt pass = go (least p n) (least_says p n)
  where
    go : (o : Option ℕ) → MatchOption o (NonePasses p n) (IsLeast p n) → is_some o ≡ true
    go None below = absurd (both_ways _ (below m lt) pass)
    go (Some i) found = refl

pub free_is_tested : FreeIsTested
free_is_tested top held taken b = (forth, back)
  where
    ok : ℕ → Bool
    ok = is_available top held taken

    here : is_clear ok b.order (b.first / 2 ^ b.order) ≡ is_clear ok b.order (number_at b.order b.first)
    here = ap (is_clear ok b.order) (sym (number_is b.order b.first))

    up : is_clear ok (suc b.order) (b.first / 2 ^ suc b.order) ≡ is_clear ok (suc b.order) (number_at b.order b.first / 2)
    up = ap (is_clear ok (suc b.order)) (sym (number_is (suc b.order) b.first))

    forth : is_free top held taken b ≡ true → IsFree top held taken b
    forth e = open_is_free top held taken b (eqb-true _ 0 shape.1) (leb-true _ _ shape.0, sym here ∙ rest.0, ending (or_cases _ _ rest.1))
      where
        parts : ((nat_le b.order top && b.first % 2 ^ b.order == 0) ≡ true) × ((is_clear ok b.order (b.first / 2 ^ b.order) && (b.order == top || not (is_clear ok (suc b.order) (b.first / 2 ^ suc b.order)))) ≡ true)
        parts = and_parts _ _ e

        shape : (nat_le b.order top ≡ true) × ((b.first % 2 ^ b.order == 0) ≡ true)
        shape = and_parts _ _ parts.0

        rest : (is_clear ok b.order (b.first / 2 ^ b.order) ≡ true) × ((b.order == top || not (is_clear ok (suc b.order) (b.first / 2 ^ suc b.order))) ≡ true)
        rest = and_parts _ _ parts.1

        ending : ((b.order == top) ≡ true) ⊎ (not (is_clear ok (suc b.order) (b.first / 2 ^ suc b.order)) ≡ true) → (b.order ≡ top) ⊎ (is_clear ok (suc b.order) (number_at b.order b.first / 2) ≡ false)
        ending (inl same) = inl (eqb-true _ _ same)
        ending (inr fails) = inr (sym up ∙ not-true _ fails)

    back : IsFree top held taken b → is_free top held taken b ≡ true
    back free = and_from _ _ (and_from _ _ (le-leb _ _ free.0.0) (eq-eqb _ 0 free.0.1)) (and_from _ _ (here ∙ is_open.1) (ending is_open.2))
      where
        is_open : IsOpen ok top b.order (number_at b.order b.first)
        is_open = free_is_open top held taken b free

        ending : (b.order ≡ top) ⊎ (is_clear ok (suc b.order) (number_at b.order b.first / 2) ≡ false) → (b.order == top || not (is_clear ok (suc b.order) (b.first / 2 ^ suc b.order))) ≡ true
        ending (inl same) = or_left _ _ (eq-eqb _ _ same)
        ending (inr fails) = or_right _ _ (not_from_false _ (up ∙ fails))

pub choice_is_found : ChoiceIsFound
choice_is_found top held taken slots k below = go (first_order top held taken slots k) (least_says (λ j. nat_le k j && is_some (first_free top held taken slots j)) (suc top))
  where
    within : (c : Block) → IsFree top held taken c → c.first < slots * 2 ^ top
    within c free = (div-lt_iff_lt-mul (pow_pos top)).0 (below (c.first / 2 ^ top) free.1)

    -- if a free block has order k or more, its order passes the test of `first_order`
    passes : (c : Block) → IsFree top held taken c → k ≤ c.order → (nat_le k c.order && is_some (first_free top held taken slots c.order)) ≡ true
    passes c free le = and_from _ _ (le-leb k c.order le) (least_found (λ f. is_free top held taken (block f c.order)) (slots * 2 ^ top) c.first (within c free) ((free_is_tested top held taken c).1 free))

    go : (o : Option ℕ) → MatchOption o (NonePasses (λ j. nat_le k j && is_some (first_free top held taken slots j)) (suc top)) (IsLeast (λ j. nat_le k j && is_some (first_free top held taken slots j)) (suc top))
        → MatchOption (option_and_then (λ j. option_map (λ f. block f j) (first_free top held taken slots j)) o) (IsWithout top held taken k) (IsChoice top held taken k)
    go None none = λ c free le. both_ways _ (none c.order (omega (arith, free.0.0))) (passes c free le)
    go (Some j) (lt, pass, lower) = frame (first_free top held taken slots j) (least_says (λ f. is_free top held taken (block f j)) (slots * 2 ^ top)) (and_parts _ _ pass).1
      where
        frame : (o : Option ℕ) → MatchOption o (NonePasses (λ f. is_free top held taken (block f j)) (slots * 2 ^ top)) (IsLeast (λ f. is_free top held taken (block f j)) (slots * 2 ^ top))
            → is_some o ≡ true → MatchOption (option_map (λ f. block f j) o) (IsWithout top held taken k) (IsChoice top held taken k)
        frame None none some = absurd (false≢true some)
        frame (Some f) (_, tested, before) some = ((free_is_tested top held taken (block f j)).0 tested, leb-true k j (and_parts _ _ pass).0, first)
          where
            first : (c : Block) → IsFree top held taken c → k ≤ c.order → (j < c.order) ⊎ ((j ≡ c.order) × (f ≤ c.first))
            first c free le = sort (cases_lt j c.order) (cases_eq j c.order)
              where
                sort : (j < c.order) ⊎ (c.order ≤ j) → (j ≡ c.order) ⊎ (j ≡ c.order → ⊥) → (j < c.order) ⊎ ((j ≡ c.order) × (f ≤ c.first))
                sort (inl above) _ = inl above
                sort (inr _) (inl same) = inr (same, least_frame (cases_lt c.first f))
                  where
                    least_frame : (c.first < f) ⊎ (f ≤ c.first) → f ≤ c.first
                    least_frame (inr le_frame) = le_frame
                    least_frame (inl earlier) = absurd (both_ways _ (before c.first earlier) (ap (λ n. is_free top held taken (block c.first n)) same ∙ (free_is_tested top held taken c).1 free))
                sort (inr at_most) (inr ne) = absurd (both_ways _ (lower c.order (omega arith)) (passes c free le))

pub one_choice : OneChoice
one_choice top held taken k b c chosen also = go (chosen.2 c also.0 also.1) (also.2 b chosen.0 chosen.1)
  where
    go : (b.order < c.order) ⊎ ((b.order ≡ c.order) × (b.first ≤ c.first)) → (c.order < b.order) ⊎ ((c.order ≡ b.order) × (c.first ≤ b.first)) → b ≡ c
    go (inl above) (inl below) = absurd (omega arith)
    go (inl above) (inr (same, _)) = absurd (omega arith)
    go (inr (same, _)) (inl below) = absurd (omega arith)
    go (inr (orders, le)) (inr (_, ge)) =
        let firsts : b.first ≡ c.first = omega arith in
        ap (λ n. block b.first n) orders ∙ ap (λ n. block n c.order) firsts
