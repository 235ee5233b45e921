-- Each available frame lies in exactly one free block, and a reservation changes the free blocks as `Splits` says.
use Rattle.std.proofs.Common.{◌≡◌, ◌⊎◌, inl, inr, refl, sym, ◌∙◌, ap, subst, ℕ, suc, ◌+◌, ◌*◌, ◌/◌, ◌%◌, ◌^◌, ◌<◌, ◌≤◌, Bool, true, false, Some, None, eq-eqb, arith}
use Rattle.std.specs.Prelude.{◌==◌}
use Rattle.std.proofs.Math.Nat.{pow-suc, add-div_right, add-mod_right}
use Rattle.std.proofs.lemmas.Nat.{pow_pos}
use Rattle.std.proofs.lemmas.Bool.{cases_eq, ne_eqb, cond-true, cond-false}
use Rattle.std.proofs.lemmas.Option.{none-some, same_Some}
use Rattle.model_core.specs.Blocks.{Block, block, HasFrame, around, Taken, with_taken, without_taken, IsTaken, IsFree}
use Rattle.model_core.specs.Numbered.{number_at, IsOpen}
use Rattle.model_core.specs.Choice.{is_available}
use Rattle.model_core.specs.BlockLaws.{EachFrameInOne, Splits, ReservedIsUntaken}
use Rattle.model_core.proofs.BlockHalves.{open_around, one_open, same_above}
use Rattle.model_core.proofs.BlockTakenOut.{TakesOut, IsOtherHalf, open_after, open_stays, open_half}
use Rattle.model_core.proofs.BlocksByNumber.{number_is, first_is, same_first, number_first, aligned_first, number_around, aligned_below, number_of_frame, frame_of_number, same_slot, available_tells, available_is, taken_is_unavailable, free_is_open, open_is_free}

-- two aligned blocks with the same order and number are the same block
pub same_block : (b c : Block) → b.first % 2 ^ b.order ≡ 0 → c.first % 2 ^ c.order ≡ 0 → b.order ≡ c.order → number_at b.order b.first ≡ number_at b.order c.first → b ≡ c
same_block b c at_b at_c orders numbers =
    ap (λ f. block f b.order) (same_first b.first c.first b.order at_b (ap (λ n. c.first % 2 ^ n) orders ∙ at_c) numbers) ∙ ap (λ n. block c.first n) orders

pub same_bool : (a b : Bool) → (a ≡ true → b ≡ true) → (b ≡ true → a ≡ true) → a ≡ b
same_bool true true to from = refl
same_bool true false to from = sym (to refl)
same_bool false true to from = from refl
same_bool false false to from = refl

-- the first frame of a block lies in the block
pub has_first : (f k : ℕ) → HasFrame (block f k) f
has_first f k = (omega arith, omega (arith, pow_pos k))

-- After a reservation of a block of order k at frame f, a lookup at f returns k. After a release at f, it returns None. A lookup
-- at any other frame returns the same as before.
pub with_here : (taken : Taken) (f k : ℕ) → with_taken taken f k f ≡ Some k
with_here taken f k = cond-true (f == f) (Some k) (taken f) (eq-eqb f f refl)

pub with_other : (taken : Taken) (f k g : ℕ) → (g ≡ f → ⊥) → with_taken taken f k g ≡ taken g
with_other taken f k g ne = cond-false (g == f) (Some k) (taken g) (ne_eqb g f ne)

pub without_here : (taken : Taken) (f : ℕ) → without_taken taken f f ≡ None
without_here taken f = cond-true (f == f) None (taken f) (eq-eqb f f refl)

pub without_other : (taken : Taken) (f g : ℕ) → (g ≡ f → ⊥) → without_taken taken f g ≡ taken g
without_other taken f g ne = cond-false (g == f) None (taken g) (ne_eqb g f ne)

-- a frame that is taken after a reservation was taken before, or is in the new block
pub taken_before : (taken : Taken) (f k x : ℕ) → IsTaken (with_taken taken f k) x → HasFrame (block f k) x ⊎ IsTaken taken x
taken_before taken f k x (g, j, e, has) = go (cases_eq g f)
  where
    go : (g ≡ f) ⊎ (g ≡ f → ⊥) → HasFrame (block f k) x ⊎ IsTaken taken x
    go (inl same) = inl (subst (λ b. HasFrame b x) (ap (λ n. block n j) same ∙ ap (block f) (same_Some j k (sym e ∙ ap (with_taken taken f k) same ∙ with_here taken f k))) has)
    go (inr ne) = inr (g, j, sym (with_other taken f k g ne) ∙ e, has)

-- a frame that was taken is still taken after a release, or is in the released block
pub taken_after : (taken : Taken) (f k x : ℕ) → taken f ≡ Some k → IsTaken taken x → HasFrame (block f k) x ⊎ IsTaken (without_taken taken f) x
taken_after taken f k x here (g, j, e, has) = go (cases_eq g f)
  where
    go : (g ≡ f) ⊎ (g ≡ f → ⊥) → HasFrame (block f k) x ⊎ IsTaken (without_taken taken f) x
    go (inl same) = inl (subst (λ b. HasFrame b x) (ap (λ n. block n j) same ∙ ap (block f) (same_Some j k (sym e ∙ ap taken same ∙ here))) has)
    go (inr ne) = inr (g, j, without_other taken f g ne ∙ e, has)

-- a frame that is taken after a release lies in a taken block that was not released
pub released_taken : (taken : Taken) (f x : ℕ) → IsTaken (without_taken taken f) x → (g j : ℕ) × (g ≡ f → ⊥) × (taken g ≡ Some j) × HasFrame (block g j) x
released_taken taken f x (g, j, e, has) = go (cases_eq g f)
  where
    go : (g ≡ f) ⊎ (g ≡ f → ⊥) → (g j : ℕ) × (g ≡ f → ⊥) × (taken g ≡ Some j) × HasFrame (block g j) x
    go (inl same) = absurd (none-some j (sym (without_here taken f) ∙ ap (without_taken taken f) (sym same) ∙ e))
    go (inr ne) = (g, j, ne, sym (without_other taken f g ne) ∙ e, has)

-- each available frame lies in exactly one free block
pub each_frame_in_one : EachFrameInOne
each_frame_in_one top held taken x on off = go (open_around (is_available top held taken) top x (available_is top held taken x on off))
  where
    go : (j : ℕ) × IsOpen (is_available top held taken) top j (number_at j x)
        → (b : Block) × IsFree top held taken b × HasFrame b x × ((c : Block) → IsFree top held taken c → HasFrame c x → c ≡ b)
    go (j, is_open) = (around x j, open_is_free top held taken (around x j) (aligned_first _ j) (subst (IsOpen (is_available top held taken) top j) (sym (number_around x j)) is_open), frame_of_number _ j x (aligned_first _ j) (sym (number_around x j)), only)
      where
        only : (c : Block) → IsFree top held taken c → HasFrame c x → c ≡ around x j
        only c free has =
            let number : number_at c.order x ≡ number_at c.order c.first = number_of_frame c.first c.order x free.0.1 has in
            let orders : c.order ≡ j = one_open (is_available top held taken) top c.order j x (subst (IsOpen (is_available top held taken) top c.order) (sym number) (free_is_open top held taken c free)) is_open in
            same_block c (around x j) free.0.1 (aligned_first _ j) orders (sym number ∙ ap (λ n. number_at n x) orders ∙ sym (number_around x j) ∙ ap (λ n. number_at n (x / 2 ^ j * 2 ^ j)) (sym orders))

-- a block that is reserved out of a free block is aligned, and all its frames lie in held slots and are not taken
pub reserved_is_untaken : ReservedIsUntaken
reserved_is_untaken top held taken f j k free le = ((omega (arith, free.0.0), aligned), frames)
  where
    aligned : f % 2 ^ k ≡ 0
    aligned = aligned_below f k j le free.0.1

    frames : (x : ℕ) → HasFrame (block f k) x → (held (x / 2 ^ top) ≡ true) × (IsTaken taken x → ⊥)
    frames x has = (ap held (same_slot top j x f free.0.0 number) ∙ free.1, λ t. free.2 (x, frame_of_number f j x free.0.1 number, t))
      where
        number : number_at j x ≡ number_at j f
        number = same_above x f k j le (number_of_frame f k x aligned has)

-- if f is a multiple of 2 ^ (i + 1), the block of order i at f has twice the number of the block of order i + 1 at f
pub even_number : (f i : ℕ) → f % 2 ^ suc i ≡ 0 → number_at i f ≡ 2 * number_at (suc i) f
even_number f i aligned = ap (number_at i) parts ∙ number_first (2 * number_at (suc i) f) i
  where
    regroup : (a b : ℕ) → a * (b * 2) ≡ 2 * a * b
    regroup a b = omega arith

    parts : f ≡ 2 * number_at (suc i) f * 2 ^ i
    parts = sym (first_is f (suc i) aligned) ∙ ap (λ n. number_at (suc i) f * n) (pow-suc 2 i) ∙ regroup (number_at (suc i) f) (2 ^ i)

pub number_plus : (f i : ℕ) → number_at i (f + 2 ^ i) ≡ number_at i f + 1
number_plus f i = number_is i (f + 2 ^ i) ∙ add-div_right f (pow_pos i) ∙ ap (λ n. n + 1) (sym (number_is i f))

-- An aligned block of order i + 1 at frame f has two halves: the lower half begins at f, the upper half begins at f + 2 ^ i. The
-- upper half is the half without f (`upper_half`), and no other aligned block of order i is (`only_half`).
pub upper_half : (f i : ℕ) → f % 2 ^ suc i ≡ 0 → IsOtherHalf f i (f + 2 ^ i)
upper_half f i aligned =
    let even : number_at i f ≡ 2 * number_at (suc i) f = even_number f i aligned in
    let plus : number_at i (f + 2 ^ i) ≡ number_at i f + 1 = number_plus f i in
    let whole : number_at (suc i) (f + 2 ^ i) ≡ (number_at i f + 1) / 2 = ap (λ n. n / 2) plus in
    record { other = λ e. omega arith; one_whole = whole ∙ next (number_at i f) (number_at (suc i) f) even }
  where
    next : (n m : ℕ) → n ≡ 2 * m → (n + 1) / 2 ≡ n / 2
    next n m e = omega arith

pub only_half : (f i x : ℕ) → f % 2 ^ suc i ≡ 0 → x % 2 ^ i ≡ 0 → IsOtherHalf f i x → x ≡ f + 2 ^ i
only_half f i x at_f at_x half = same_first x (f + 2 ^ i) i at_x (add-mod_right f (2 ^ i) ∙ aligned_below f i (suc i) (omega arith) at_f) (numbers (number_at i x) (number_at i f) (number_at (suc i) f) (even_number f i at_f) half.one_whole half.other ∙ sym (number_plus f i))
  where
    numbers : (n m q : ℕ) → m ≡ 2 * q → n / 2 ≡ m / 2 → (n ≡ m → ⊥) → n ≡ m + 1
    numbers n m q even whole ne = omega arith

-- a reservation takes the frames of the reserved block out of the available frames
pub reserving : (top : ℕ) (held : ℕ → Bool) (taken : Taken) (f j k : ℕ) → IsFree top held taken (block f j) → k ≤ j → TakesOut (is_available top held taken) (is_available top held (with_taken taken f k)) top f k j
reserving top held taken f j k free le = record {
  order = le;
  open_block = free_is_open top held taken (block f j) free;
  inside = λ x e. taken_is_unavailable top held (with_taken taken f k) x (f, k, with_here taken f k, frame_of_number f k x aligned e);
  outside = λ x ne. same_bool _ _ (back x) (forth x ne);
}
  where
    aligned : f % 2 ^ k ≡ 0
    aligned = aligned_below f k j le free.0.1

    kept : (x : ℕ) → IsTaken taken x → IsTaken (with_taken taken f k) x
    kept x (g, i, e, has) = (g, i, with_other taken f k g (λ same. free.2 (f, has_first f j, (g, i, e, subst (HasFrame (block g i)) same (has_first g i)))) ∙ e, has)

    back : (x : ℕ) → is_available top held (with_taken taken f k) x ≡ true → is_available top held taken x ≡ true
    back x e = let both = available_tells top held (with_taken taken f k) x e in available_is top held taken x both.0 (λ t. both.1 (kept x t))

    forth : (x : ℕ) → (number_at k x ≡ number_at k f → ⊥) → is_available top held taken x ≡ true → is_available top held (with_taken taken f k) x ≡ true
    forth x ne e = available_is top held (with_taken taken f k) x both.0 (λ t. go (taken_before taken f k x t))
      where
        both : (held (x / 2 ^ top) ≡ true) × (IsTaken taken x → ⊥)
        both = available_tells top held taken x e

        go : HasFrame (block f k) x ⊎ IsTaken taken x → ⊥
        go (inl has) = ne (number_of_frame f k x aligned has)
        go (inr was) = both.1 was

-- a reservation changes the free blocks as `Splits` says
pub splits : Splits
splits top held taken f j k free le b = (forth, back)
  where
    large : ℕ → Bool
    large = is_available top held taken

    small : ℕ → Bool
    small = is_available top held (with_taken taken f k)

    out : TakesOut large small top f k j
    out = reserving top held taken f j k free le

    Gained : Type 0
    Gained = (IsFree top held taken b × (b ≡ block f j → ⊥)) ⊎ ((i : ℕ) × (k ≤ i) × (i < j) × (b ≡ block (f + 2 ^ i) i))

    forth : IsFree top held (with_taken taken f k) b → Gained
    forth now = go (open_after large small top f k j out b.order b.first (free_is_open top held (with_taken taken f k) b now))
      where
        go : (IsOpen large top b.order (number_at b.order b.first) × (b.order ≡ j → number_at b.order b.first ≡ number_at b.order f → ⊥)) ⊎ ((k ≤ b.order) × (b.order < j) × IsOtherHalf f b.order b.first) → Gained
        go (inl (was, other)) = inl (open_is_free top held taken b now.0.1 was, λ e. other (ap (λ c. c.order) e) (ap (λ c. number_at b.order c.first) e))
        go (inr (up, lt, half)) = inr (b.order, up, lt, ap (λ n. block n b.order) (only_half f b.order b.first (aligned_below f (suc b.order) j (omega arith) free.0.1) now.0.1 half))

    back : Gained → IsFree top held (with_taken taken f k) b
    back (inl (was, other)) = open_is_free top held (with_taken taken f k) b was.0.1 (open_stays large small top f k j out b.order b.first (free_is_open top held taken b was)
        (λ orders numbers. other (same_block b (block f j) was.0.1 free.0.1 orders numbers)))
    back (inr (i, up, lt, e)) = subst (IsFree top held (with_taken taken f k)) (sym e)
        (open_is_free top held (with_taken taken f k) (block (f + 2 ^ i) i) (add-mod_right f (2 ^ i) ∙ aligned_below f i j (omega arith) free.0.1)
        (open_half large small top f k j out i (f + 2 ^ i) up lt (upper_half f i (aligned_below f (suc i) j (omega arith) free.0.1))))
