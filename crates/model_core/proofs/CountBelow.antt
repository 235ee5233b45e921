-- How many numbers below a bound pass a test. The number of free blocks is the same for all bounds above the held slots.
use Rattle.std.proofs.Common.{◌≡◌, ◌⊎◌, inl, inr, refl, sym, ◌∙◌, ap, ℕ, zero, suc, ◌+◌, ◌*◌, ◌/◌, ◌^◌, ◌<◌, ◌≤◌, Bool, true, false, arith}
use Rattle.std.specs.Prelude.{if◌then◌else◌}
use Rattle.std.proofs.Math.Nat.{div-lt_iff_lt-mul}
use Rattle.std.proofs.lemmas.Nat.{pow_pos}
use Rattle.std.proofs.lemmas.Bool.{cases_lt, false_from_ne_true}
use Rattle.model_core.specs.Blocks.{block, Taken}
use Rattle.model_core.specs.Choice.{is_free, count_below, free_blocks}
use Rattle.model_core.proofs.BlockChoice.{free_is_tested}

-- what one number adds to a count: 1 if it passes the test, else 0
abbrev pub bit : Bool → ℕ
bit b = if b then 1 else 0

pub count_same : (p r : ℕ → Bool) (n : ℕ) → ((f : ℕ) → f < n → p f ≡ r f) → count_below p n ≡ count_below r n
count_same p r zero same = refl
count_same p r (suc n) same =
    ap (λ a. a + bit (p n)) (count_same p r n (λ f lt. same f (omega arith))) ∙ ap (λ (b : Bool). count_below r n + bit b) (same n (omega arith))

pub count_le : (p : ℕ → Bool) (n : ℕ) → count_below p n ≤ n
count_le p zero = omega arith
count_le p (suc n) = let before = count_le p n in let last = at_most_one (p n) in omega arith
  where
    at_most_one : (b : Bool) → bit b ≤ 1
    at_most_one true = omega arith
    at_most_one false = omega arith

pub count_none : (p : ℕ → Bool) (n : ℕ) → ((f : ℕ) → f < n → p f ≡ false) → count_below p n ≡ 0
count_none p zero none = refl
count_none p (suc n) none =
    let before = count_none p n (λ f lt. none f (omega arith)) in
    let last : bit (p n) ≡ 0 = ap bit (none n (omega arith)) in
    omega arith

-- if no number from n on passes the test, the count below n is the count below every greater bound too
pub count_past : (p : ℕ → Bool) (n m : ℕ) → n ≤ m → ((f : ℕ) → n ≤ f → p f ≡ false) → count_below p m ≡ count_below p n
count_past p n zero le none = let same : n ≡ 0 = omega arith in ap (count_below p) (sym same)
count_past p n (suc m) le none = go (cases_lt m n) (count_past p n m)
  where
    go : (m < n) ⊎ (n ≤ m) → (n ≤ m → ((f : ℕ) → n ≤ f → p f ≡ false) → count_below p m ≡ count_below p n) → count_below p (suc m) ≡ count_below p n
    go (inl below) rest = let same : suc m ≡ n = omega arith in ap (count_below p) same
    go (inr past) rest =
        let last : bit (p m) ≡ 0 = ap bit (none m past) in
        let before : count_below p m ≡ count_below p n = rest past none in
        omega arith

-- if no number from n on and no number from m on passes the test, the counts below n and below m are equal
pub count_either : (p : ℕ → Bool) (n m : ℕ) → ((f : ℕ) → n ≤ f → p f ≡ false) → ((f : ℕ) → m ≤ f → p f ≡ false) → count_below p n ≡ count_below p m
count_either p n m past_n past_m = go (cases_lt n m)
  where
    go : (n < m) ⊎ (m ≤ n) → count_below p n ≡ count_below p m
    go (inl below) = sym (count_past p n m (omega arith) past_n)
    go (inr above) = count_past p m n above past_m

-- a block that begins past all held slots is not free
none_past : (top : ℕ) (held : ℕ → Bool) (taken : Taken) (slots k f : ℕ) → ((u : ℕ) → held u ≡ true → u < slots) → slots * 2 ^ top ≤ f → is_free top held taken (block f k) ≡ false
none_past top held taken slots k f above past = false_from_ne_true _ (λ e.
    let within : f < slots * 2 ^ top = (div-lt_iff_lt-mul (pow_pos top)).0 (above (f / 2 ^ top) ((free_is_tested top held taken (block f k)).0 e).1) in
    absurd (omega arith))

-- the number of free blocks is the same for all bounds above the held slots
pub blocks_either : (top : ℕ) (held : ℕ → Bool) (taken : Taken) (k n m : ℕ) → ((u : ℕ) → held u ≡ true → u < n) → ((u : ℕ) → held u ≡ true → u < m)
    → free_blocks top held taken n k ≡ free_blocks top held taken m k
blocks_either top held taken k n m above_n above_m =
    count_either (λ f. is_free top held taken (block f k)) (n * 2 ^ top) (m * 2 ^ top)
    (λ f past. none_past top held taken n k f above_n past) (λ f past. none_past top held taken m k f above_m past)
