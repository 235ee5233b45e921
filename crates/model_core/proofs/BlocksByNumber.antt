-- A frame lies in an aligned block of order k if and only if `number_at k` of the frame is the number of the block. An aligned
-- block is free if and only if it is open under the test `is_available`.
use Rattle.std.proofs.Common.{◌≡◌, ◌⊎◌, inl, inr, refl, sym, ◌∙◌, ap, ℕ, zero, suc, ◌+◌, ◌-◌, ◌*◌, ◌/◌, ◌%◌, ◌^◌, ◌<◌, ◌≤◌, Bool, true, false, not, Option, Some, None, add-one, arith}
use Rattle.std.proofs.Math.Nat.{pow-suc, div-div-eq-div-mul, div-eq_of_lt-le, div-mul-le_self, lt-div-mul-add, mul-mod_left, mul-div_cancel}
use Rattle.std.proofs.lemmas.Nat.{pow_pos, pow-add, shr_split}
use Rattle.std.proofs.lemmas.Bool.{false≢true, both_ways, and_parts, and_from, and_cases, or_cases, or_left, or_right, not-true, not-false, not_from_false, cases_lt, cases_eq, false_from_ne_true, leb-true, ltb-true, le-leb, lt-ltb}
use Rattle.model_core.specs.Blocks.{Block, block, HasFrame, around, Taken, IsTaken, HasTaken, IsFree}
use Rattle.model_core.specs.Numbered.{number_at, is_clear, IsOpen}
use Rattle.model_core.specs.Choice.{is_any_below, has_frame, is_taken, is_available}
use Rattle.model_core.proofs.BlockHalves.{clear_at, clear_from, clear_fails, same_above}

-- numbers and divisions -------------------------------------------------------------------------

pub number_is : (k x : ℕ) → number_at k x ≡ x / 2 ^ k
number_is zero x = omega arith
number_is (suc k) x = ap (λ n. n / 2) (number_is k x) ∙ div-div-eq-div-mul x (2 ^ k) 2 ∙ ap (λ n. x / n) (sym (pow-suc 2 k))

-- an aligned block begins at its number times its size
pub first_is : (f k : ℕ) → f % 2 ^ k ≡ 0 → number_at k f * 2 ^ k ≡ f
first_is f k aligned =
    let split : f / 2 ^ k * 2 ^ k + f % 2 ^ k ≡ f = shr_split f k in
    ap (λ n. n * 2 ^ k) (number_is k f) ∙ omega arith

-- two aligned blocks of the same order and number begin at the same frame
pub same_first : (f g k : ℕ) → f % 2 ^ k ≡ 0 → g % 2 ^ k ≡ 0 → number_at k f ≡ number_at k g → f ≡ g
same_first f g k at_f at_g same = sym (first_is f k at_f) ∙ ap (λ n. n * 2 ^ k) same ∙ first_is g k at_g

-- the block of order k that begins at q * 2 ^ k has number q
pub number_first : (q k : ℕ) → number_at k (q * 2 ^ k) ≡ q
number_first q k = number_is k (q * 2 ^ k) ∙ mul-div_cancel q (pow_pos k)

pub aligned_first : (q k : ℕ) → q * 2 ^ k % 2 ^ k ≡ 0
aligned_first q k = mul-mod_left q (2 ^ k)

pub number_around : (x k : ℕ) → number_at k (x / 2 ^ k * 2 ^ k) ≡ number_at k x
number_around x k = number_first (x / 2 ^ k) k ∙ sym (number_is k x)

-- if f is a multiple of 2 ^ j, it is a multiple of each smaller power of two
pub aligned_below : (f k j : ℕ) → k ≤ j → f % 2 ^ j ≡ 0 → f % 2 ^ k ≡ 0
aligned_below f k j le aligned = ap (λ n. n % 2 ^ k) parts ∙ mul-mod_left (number_at j f * 2 ^ (j - k)) (2 ^ k)
  where
    size : 2 ^ j ≡ 2 ^ (j - k) * 2 ^ k
    size = ap (λ n. 2 ^ n) (omega arith) ∙ pow-add 2 (j - k) k

    regroup : (a b c : ℕ) → a * (b * c) ≡ a * b * c
    regroup a b c = omega arith

    parts : f ≡ number_at j f * 2 ^ (j - k) * 2 ^ k
    parts = sym (first_is f j aligned) ∙ ap (λ n. number_at j f * n) size ∙ regroup (number_at j f) (2 ^ (j - k)) (2 ^ k)

-- a frame lies in the aligned block of order k at f if and only if the blocks of order k around the frame and around f have the
-- same number
pub number_of_frame : (f k x : ℕ) → f % 2 ^ k ≡ 0 → HasFrame (block f k) x → number_at k x ≡ number_at k f
number_of_frame f k x aligned (low, high) =
    let first : number_at k f * 2 ^ k ≡ f = first_is f k aligned in
    let up : (number_at k f + 1) * 2 ^ k ≡ f + 2 ^ k = right (number_at k f) (2 ^ k) ∙ ap (λ n. n + 2 ^ k) first in
    number_is k x ∙ div-eq_of_lt-le (2 ^ k) (omega arith) (omega arith)
  where
    right : (a n : ℕ) → (a + 1) * n ≡ a * n + n
    right a n = omega arith

pub frame_of_number : (f k x : ℕ) → f % 2 ^ k ≡ 0 → number_at k x ≡ number_at k f → HasFrame (block f k) x
frame_of_number f k x aligned same =
    let first : number_at k f * 2 ^ k ≡ f = first_is f k aligned in
    let here : x / 2 ^ k * 2 ^ k ≡ f = ap (λ n. n * 2 ^ k) (sym (number_is k x) ∙ same) ∙ first in
    let low : x / 2 ^ k * 2 ^ k ≤ x = div-mul-le_self x (2 ^ k) in
    let high : x < x / 2 ^ k * 2 ^ k + 2 ^ k = lt-div-mul-add (pow_pos k) in
    (omega arith, omega arith)

pub number_next : (k x : ℕ) → number_at (k + 1) x ≡ number_at (suc k) x
number_next k x = ap (λ n. number_at n x) (add-one k)

-- two frames of one block of order `top` or less are in one slot
pub same_slot : (top k x y : ℕ) → k ≤ top → number_at k x ≡ number_at k y → x / 2 ^ top ≡ y / 2 ^ top
same_slot top k x y le same = sym (number_is top x) ∙ same_above x y k top le same ∙ number_is top y

-- the tests of taken and available frames ---------------------------------------------------------

pub any_below_tells : (p : ℕ → Bool) (n : ℕ) → is_any_below p n ≡ true → (i : ℕ) × (i < n) × (p i ≡ true)
any_below_tells p zero e = absurd (false≢true e)
any_below_tells p (suc n) e = go (or_cases _ _ e) (any_below_tells p n)
  where
    go : (is_any_below p n ≡ true) ⊎ (p n ≡ true) → (is_any_below p n ≡ true → (i : ℕ) × (i < n) × (p i ≡ true)) → (i : ℕ) × (i < suc n) × (p i ≡ true)
    go (inl low) below = let w = below low in (w.0, omega (arith, w.1), w.2)
    go (inr here) below = (n, omega arith, here)

pub any_below_is : (p : ℕ → Bool) (n i : ℕ) → i < n → p i ≡ true → is_any_below p n ≡ true
any_below_is p zero i lt pass = absurd (omega arith)
any_below_is p (suc n) i lt pass = go (cases_lt i n) (any_below_is p n i)
  where
    go : (i < n) ⊎ (n ≤ i) → (i < n → p i ≡ true → is_any_below p n ≡ true) → is_any_below p (suc n) ≡ true
    go (inl low) below = or_left _ _ (below low pass)
    go (inr high) below =
        let here : i ≡ n = omega arith in
        or_right _ _ (ap p (sym here) ∙ pass)

has_frame_tells : (x f : ℕ) (o : Option ℕ) → has_frame x f o ≡ true → (k : ℕ) × (o ≡ Some k) × HasFrame (block f k) x
has_frame_tells x f None e = absurd (false≢true e)
has_frame_tells x f (Some k) e = let both = and_parts _ _ e in (k, refl, (leb-true f x both.0, ltb-true x (f + 2 ^ k) both.1))

has_frame_is : (x f k : ℕ) → HasFrame (block f k) x → has_frame x f (Some k) ≡ true
has_frame_is x f k (low, high) = and_from _ _ (le-leb f x low) (lt-ltb x (f + 2 ^ k) high)

pub taken_tells : (taken : Taken) (x : ℕ) → is_taken taken x ≡ true → IsTaken taken x
taken_tells taken x e =
    let found = any_below_tells (λ f. has_frame x f (taken f)) (suc x) e in
    let w = has_frame_tells x found.0 (taken found.0) found.2 in
    (found.0, w.0, w.1, w.2)

pub taken_is : (taken : Taken) (x : ℕ) → IsTaken taken x → is_taken taken x ≡ true
taken_is taken x (f, k, e, has) = any_below_is (λ g. has_frame x g (taken g)) (suc x) f (omega arith) (ap (has_frame x f) e ∙ has_frame_is x f k has)

pub untaken_is : (taken : Taken) (x : ℕ) → (IsTaken taken x → ⊥) → is_taken taken x ≡ false
untaken_is taken x ne = false_from_ne_true _ (λ e. ne (taken_tells taken x e))

module _ (top : ℕ) (held : ℕ → Bool) (taken : Taken) where
  pub available_tells : (x : ℕ) → is_available top held taken x ≡ true → (held (x / 2 ^ top) ≡ true) × (IsTaken taken x → ⊥)
  available_tells x e =
      let both = and_parts _ _ e in
      (both.0, λ t. both_ways _ (not-true _ both.1) (taken_is taken x t))

  pub available_is : (x : ℕ) → held (x / 2 ^ top) ≡ true → (IsTaken taken x → ⊥) → is_available top held taken x ≡ true
  available_is x on off = and_from _ _ on (not_from_false _ (untaken_is taken x off))

  -- a frame in a held slot is taken if it is not available
  pub unavailable_tells : (x : ℕ) → held (x / 2 ^ top) ≡ true → is_available top held taken x ≡ false → IsTaken taken x
  unavailable_tells x on e = go (and_cases _ _ e)
    where
      go : (held (x / 2 ^ top) ≡ false) ⊎ (not (is_taken taken x) ≡ false) → IsTaken taken x
      go (inl off) = absurd (both_ways _ off on)
      go (inr t) = taken_tells taken x (not-false _ t)

  pub taken_is_unavailable : (x : ℕ) → IsTaken taken x → is_available top held taken x ≡ false
  taken_is_unavailable x t = false_from_ne_true _ (λ e. (available_tells x e).1 t)

  -- a free block is open, and an aligned open block is free
  pub free_is_open : (b : Block) → IsFree top held taken b → IsOpen (is_available top held taken) top b.order (number_at b.order b.first)
  free_is_open b ((le, aligned), on, off, end) = (le, clear_from _ b.order (number_at b.order b.first) passes, ending end)
    where
      passes : (x : ℕ) → number_at b.order x ≡ number_at b.order b.first → is_available top held taken x ≡ true
      passes x e = available_is x (ap held (same_slot top b.order x b.first le e) ∙ on) (λ t. off (x, frame_of_number b.first b.order x aligned e, t))

      up : HasTaken taken (around b.first (b.order + 1)) → is_clear (is_available top held taken) (suc b.order) (number_at b.order b.first / 2) ≡ false
      up (x, has, t) = false_from_ne_true _ (λ clear. both_ways _ (taken_is_unavailable x t) (clear_at (is_available top held taken) (suc b.order) x (ap (is_clear (is_available top held taken) (suc b.order)) here ∙ clear)))
        where
          here : number_at (suc b.order) x ≡ number_at (suc b.order) b.first
          here = sym (number_next b.order x) ∙ number_of_frame _ (b.order + 1) x (aligned_first _ (b.order + 1)) has ∙ number_around b.first (b.order + 1) ∙ number_next b.order b.first

      ending : (b.order ≡ top) ⊎ HasTaken taken (around b.first (b.order + 1)) → (b.order ≡ top) ⊎ (is_clear (is_available top held taken) (suc b.order) (number_at b.order b.first / 2) ≡ false)
      ending (inl e) = inl e
      ending (inr has) = inr (up has)

  pub open_is_free : (b : Block) → b.first % 2 ^ b.order ≡ 0 → IsOpen (is_available top held taken) top b.order (number_at b.order b.first) → IsFree top held taken b
  open_is_free b aligned (le, clear, end) = ((le, aligned), (available_tells b.first (passes b.first refl)).0, off, ending (cases_eq b.order top) end)
    where
      passes : (x : ℕ) → number_at b.order x ≡ number_at b.order b.first → is_available top held taken x ≡ true
      passes x e = clear_at (is_available top held taken) b.order x (ap (is_clear (is_available top held taken) b.order) e ∙ clear)

      off : HasTaken taken b → ⊥
      off (x, has, t) = (available_tells x (passes x (number_of_frame b.first b.order x aligned has))).1 t

      up : (b.order ≡ top → ⊥) → (x : ℕ) × (number_at (suc b.order) x ≡ number_at b.order b.first / 2) × (is_available top held taken x ≡ false) → HasTaken taken (around b.first (b.order + 1))
      up ne (x, e, bad) = (x, has, unavailable_tells x (ap held (same_slot top (suc b.order) x b.first (omega arith) e) ∙ (available_tells b.first (passes b.first refl)).0) bad)
        where
          has : HasFrame (around b.first (b.order + 1)) x
          has = frame_of_number _ (b.order + 1) x (aligned_first _ (b.order + 1)) (number_next b.order x ∙ e ∙ sym (number_next b.order b.first) ∙ sym (number_around b.first (b.order + 1)))

      ending : (b.order ≡ top) ⊎ (b.order ≡ top → ⊥) → (b.order ≡ top) ⊎ (is_clear (is_available top held taken) (suc b.order) (number_at b.order b.first / 2) ≡ false) → (b.order ≡ top) ⊎ HasTaken taken (around b.first (b.order + 1))
      ending (inl e) _ = inl e
      ending (inr ne) (inl e) = inl e
      ending (inr ne) (inr fails) = inr (up ne (clear_fails (is_available top held taken) (suc b.order) (number_at b.order b.first / 2) fails))
