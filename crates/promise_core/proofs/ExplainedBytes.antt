-- In an explained state (`IsExplained`), each byte that a read may return at the place is the tenant's own.
use Rattle.std.proofs.Common.{◌≡◌, ℕ, zero, suc, ◌+◌, ◌-◌, ◌%◌, Bool, true, false, not, ◌&&◌, ◌||◌, List, [], ◌∷◌, length, Option, Some, None, slice_get, refl, sym, subst, ◌⊎◌, inl, inr, arith}
use Rattle.std.specs.Prelude.{slice_index, if◌then◌else◌, ◌==◌}
use Rattle.std.specs.List.{list_any}
use Rattle.std.specs.Option.{option_map_or}
use Rattle.std.proofs.lemmas.Bool.{eq-eqb, eqb-true, or_left, or_right, or_cases, and_parts}
use Rattle.model_core.specs.Layouts.{pattern_byte}
use Rattle.model_core.specs.Elements.{IsIn}
use Rattle.model_core.proofs.Lists.{find_in}
use Rattle.promise_core.specs.Holdings.{KnownCache, Holdings, known_cache}
use Rattle.promise_core.specs.Bytes.{Holder, Cell, Cells, is_same, known_fresh_byte, may_be, may_all_be}
use Rattle.promise_core.specs.State.{State}

-- the byte is zero, or in a pattern that was given, or was written
abbrev pub own : (ℕ → Bool) → (ℕ → Bool) → ℕ → Bool
own given written byte = byte == 0 || (given byte || written byte)

pub record IsExplained (given written : ℕ → Bool) (place : ℕ) (s : State) : Type 0 where
  pub patterns : (c : KnownCache) → IsIn c s.has.caches → (b : ℕ) → list_any (λ x. x == b) c.pattern ≡ true → given b ≡ true
  pub cells : (cell : Cell) → s.cells place ≡ Some cell → own given written cell.byte ≡ true

own_zero : (given written : ℕ → Bool) (byte : ℕ) → byte ≡ 0 → own given written byte ≡ true
own_zero given written byte e = or_left _ _ (eq-eqb byte 0 e)

own_given : (given written : ℕ → Bool) (byte : ℕ) → given byte ≡ true → own given written byte ≡ true
own_given given written byte e = or_right (byte == 0) _ (or_left _ _ e)

pub own_written : (given written : ℕ → Bool) (byte : ℕ) → written byte ≡ true → own given written byte ≡ true
own_written given written byte e = or_right (byte == 0) _ (or_right (given byte) _ e)

pub own_more : (given written given' written' : ℕ → Bool) → ((b : ℕ) → given b ≡ true → given' b ≡ true) → ((b : ℕ) → written b ≡ true → written' b ≡ true)
    → (byte : ℕ) → own given written byte ≡ true → own given' written' byte ≡ true
own_more given written given' written' more_given more_written byte e = elim (or_cases (byte == 0) (given byte || written byte) e) [
  | inl z ↦ or_left _ _ z
  | inr f ↦ elim (or_cases (given byte) (written byte) f) [
    | inl g ↦ own_given given' written' byte (more_given byte g)
    | inr v ↦ own_written given' written' byte (more_written byte v)
  ]
]

-- the number at index i of a list is in the list, or `slice_index` gives 0
index_is : (xs : List ℕ) (i : ℕ) → (slice_index xs i ≡ 0) ⊎ (list_any (λ x. x == slice_index xs i) xs ≡ true)
index_is [] i = inl refl
index_is (x ∷ xs) zero = inr (or_left _ _ (eq-eqb x x refl))
index_is (x ∷ xs) (suc i) = elim (index_is xs i) [ inl e ↦ inl e | inr e ↦ inr (or_right (x == slice_index xs i) _ e) ]

-- in an explained state, a fresh byte of any holder is the tenant's own
fresh_own : (given written : ℕ → Bool) (place p : ℕ) (s : State) (holder : Holder) → IsExplained given written place s
    → own given written (known_fresh_byte s.has holder p) ≡ true
fresh_own given written place p s Holder.Page x = refl
fresh_own given written place p s (Holder.Object number first) x = go (known_cache s.has number) refl
  where
    go : (found : Option KnownCache) → known_cache s.has number ≡ found
        → own given written (option_map_or (λ c. pattern_byte c.pattern (p - first)) found 0) ≡ true
    go None e = refl
    go (Some c) e = elim (index_is c.pattern ((p - first) % length c.pattern)) [
      | inl z ↦ own_zero given written _ z
      | inr i ↦ own_given given written _ (x.patterns c (find_in (λ y. y.number == number) c s.has.caches e).0 _ i)
    ]

-- in an explained state, a byte that may be at the place is the tenant's own
pub may_own : (given written : ℕ → Bool) (place : ℕ) (s : State) (holder : Holder) (byte : ℕ) → IsExplained given written place s
    → may_be holder (known_fresh_byte s.has holder place) (s.cells place) byte ≡ true → own given written byte ≡ true
may_own given written place s holder byte x = go (s.cells place) refl
  where
    fresh_one : (byte == known_fresh_byte s.has holder place) ≡ true → own given written byte ≡ true
    fresh_one e = subst (λ b. own given written b ≡ true) (sym (eqb-true byte _ e)) (fresh_own given written place place s holder x)

    same : (cell : Cell) (sure : Bool) → s.cells place ≡ Some cell → (byte == cell.byte || (not sure && byte == known_fresh_byte s.has holder place)) ≡ true
        → own given written byte ≡ true
    same cell sure is e = elim (or_cases (byte == cell.byte) _ e) [
      | inl b ↦ subst (λ b. own given written b ≡ true) (sym (eqb-true byte _ b)) (x.cells cell is)
      | inr f ↦ fresh_one (and_parts (not sure) _ f).1
    ]

    go : (found : Option Cell) → s.cells place ≡ found → may_be holder (known_fresh_byte s.has holder place) found byte ≡ true → own given written byte ≡ true
    go None is e = fresh_one e
    go (Some cell) is e = by_holder (is_same cell.holder holder) e
      where
        by_holder : (b : Bool) → (if b then byte == cell.byte || (not cell.sure && byte == known_fresh_byte s.has holder place) else byte == known_fresh_byte s.has holder place) ≡ true
            → own given written byte ≡ true
        by_holder true e = same cell cell.sure is e
        by_holder false e = fresh_one e

-- if these bytes may be at the places from `begin` on, each of them may be at its place
pub each_may : (h : Holdings) (cells : Cells) (holder : Holder) (begin : ℕ) (bytes : List ℕ) (j b : ℕ) → may_all_be h cells holder begin bytes ≡ true
    → slice_get bytes j ≡ Some b → may_be holder (known_fresh_byte h holder (begin + j)) (cells (begin + j)) b ≡ true
each_may h cells holder begin [] j b e at = absurd (cc)
each_may h cells holder begin (x ∷ xs) zero b e at =
    let same : x ≡ b = cc in
    let here : begin + 0 ≡ begin = omega arith in
    subst (λ p. may_be holder (known_fresh_byte h holder p) (cells p) b ≡ true) (sym here)
    (subst (λ y. may_be holder (known_fresh_byte h holder begin) (cells begin) y ≡ true) same (and_parts _ _ e).0)
each_may h cells holder begin (x ∷ xs) (suc j) b e at =
    let here : (begin + 1) + j ≡ begin + suc j = omega arith in
    subst (λ p. may_be holder (known_fresh_byte h holder p) (cells p) b ≡ true) here (each_may h cells holder (begin + 1) xs j b (and_parts _ _ e).1 at)
