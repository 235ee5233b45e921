-- Clear and open blocks under any test of frames. A block is clear if and only if all its frames pass, and each frame that passes
-- lies in exactly one open block.
use Rattle.std.proofs.Common.{◌≡◌, ◌⊎◌, inl, inr, refl, sym, ◌∙◌, ap, subst, ℕ, zero, suc, ◌+◌, ◌-◌, ◌*◌, ◌/◌, ◌<◌, ◌≤◌, Bool, true, false, arith}
use Rattle.std.specs.Prelude.{◌&&◌}
use Rattle.std.proofs.lemmas.Bool.{both_ways, and_parts, and_from, and_cases, cases_Bool, cases_lt, cases_eq}
use Rattle.model_core.specs.Numbered.{number_at, is_clear, IsOpen}

-- each number q is 2 * (q / 2) or 2 * (q / 2) + 1
pub halves : (q : ℕ) → (q ≡ 2 * (q / 2)) ⊎ (q ≡ 2 * (q / 2) + 1)
halves q = go (cases_eq q (2 * (q / 2)))
  where
    go : (q ≡ 2 * (q / 2)) ⊎ (q ≡ 2 * (q / 2) → ⊥) → (q ≡ 2 * (q / 2)) ⊎ (q ≡ 2 * (q / 2) + 1)
    go (inl e) = inl e
    go (inr ne) = inr (odd (cases_lt q (2 * (q / 2) + 1)))
      where
        odd : (q < 2 * (q / 2) + 1) ⊎ (2 * (q / 2) + 1 ≤ q) → q ≡ 2 * (q / 2) + 1
        odd (inl lt) = absurd (ne (omega arith))
        odd (inr le) = omega arith

-- both halves of a clear block are clear
pub clear_half : (ok : ℕ → Bool) (k q : ℕ) → is_clear ok (suc k) (q / 2) ≡ true → is_clear ok k q ≡ true
clear_half ok k q clear = go (halves q)
  where
    parts : (is_clear ok k (2 * (q / 2)) ≡ true) × (is_clear ok k (2 * (q / 2) + 1) ≡ true)
    parts = and_parts (is_clear ok k (2 * (q / 2))) (is_clear ok k (2 * (q / 2) + 1)) clear

    go : (q ≡ 2 * (q / 2)) ⊎ (q ≡ 2 * (q / 2) + 1) → is_clear ok k q ≡ true
    go (inl e) = ap (is_clear ok k) e ∙ parts.0
    go (inr e) = ap (is_clear ok k) e ∙ parts.1

-- a block is clear if its two halves, q and r, are clear
pub clear_whole : (ok : ℕ → Bool) (k q r : ℕ) → q / 2 ≡ r / 2 → (q ≡ r → ⊥) → is_clear ok k q ≡ true → is_clear ok k r ≡ true → is_clear ok (suc k) (q / 2) ≡ true
clear_whole ok k q r same ne clear_q clear_r = go (halves q) (halves r)
  where
    go : (q ≡ 2 * (q / 2)) ⊎ (q ≡ 2 * (q / 2) + 1) → (r ≡ 2 * (r / 2)) ⊎ (r ≡ 2 * (r / 2) + 1) → is_clear ok (suc k) (q / 2) ≡ true
    go (inl e) (inl d) = absurd (ne (omega arith))
    go (inr e) (inr d) = absurd (ne (omega arith))
    go (inl e) (inr d) = and_from _ _ (ap (is_clear ok k) (sym e) ∙ clear_q) (ap (λ n. is_clear ok k (2 * n + 1)) same ∙ ap (is_clear ok k) (sym d) ∙ clear_r)
    go (inr e) (inl d) = and_from _ _ (ap (λ n. is_clear ok k (2 * n)) same ∙ ap (is_clear ok k) (sym d) ∙ clear_r) (ap (is_clear ok k) (sym e) ∙ clear_q)

-- if the block of order i + k around frame x is clear, so is the block of order k around x
clear_down : (ok : ℕ → Bool) (x i k m : ℕ) → m ≡ i + k → is_clear ok m (number_at m x) ≡ true → is_clear ok k (number_at k x) ≡ true
clear_down ok x zero k m e clear =
    let same : m ≡ k = omega arith in
    subst (λ n. is_clear ok n (number_at n x) ≡ true) same clear
clear_down ok x (suc i) k m e clear =
    let same : m ≡ suc (i + k) = omega arith in
    clear_down ok x i k (i + k) refl (clear_half ok (i + k) (number_at (i + k) x) (subst (λ n. is_clear ok n (number_at n x) ≡ true) same clear))

-- if the block of order k around frame x is clear, so is each block of a lower order around x
pub clear_below : (ok : ℕ → Bool) (x i k : ℕ) → i ≤ k → is_clear ok k (number_at k x) ≡ true → is_clear ok i (number_at i x) ≡ true
clear_below ok x i k le clear = clear_down ok x (k - i) i k (omega arith) clear

-- each frame of a clear block passes the test
pub clear_at : (ok : ℕ → Bool) (k x : ℕ) → is_clear ok k (number_at k x) ≡ true → ok x ≡ true
clear_at ok k x clear = clear_below ok x zero k (omega arith) clear

same_up : (x y i k m : ℕ) → m ≡ i + k → number_at k x ≡ number_at k y → number_at m x ≡ number_at m y
same_up x y zero k m e same =
    let up : k ≡ m = omega arith in
    subst (λ n. number_at n x ≡ number_at n y) up same
same_up x y (suc i) k m e same =
    let up : suc (i + k) ≡ m = omega arith in
    subst (λ n. number_at n x ≡ number_at n y) up (next (i + k) (same_up x y i k (i + k) refl same))
  where
    next : (n : ℕ) → number_at n x ≡ number_at n y → number_at (suc n) x ≡ number_at (suc n) y
    next n e = ap (λ m. m / 2) e

-- if two frames are in one block of order i, they are in one block of each greater order
pub same_above : (x y i k : ℕ) → i ≤ k → number_at i x ≡ number_at i y → number_at k x ≡ number_at k y
same_above x y i k le same = same_up x y (k - i) i k (omega arith) same

-- if two tests agree on all frames of a block, the block is clear under both tests or under neither
pub clear_same : (a b : ℕ → Bool) (k q : ℕ) → ((x : ℕ) → number_at k x ≡ q → a x ≡ b x) → is_clear a k q ≡ is_clear b k q
clear_same a b zero q agree = agree q refl
clear_same a b (suc k) q agree =
    ap (λ t. t && is_clear a k (2 * q + 1)) (clear_same a b k (2 * q) (λ x e. agree x (ap (λ n. n / 2) e ∙ omega arith)))
    ∙ ap (λ t. is_clear b k (2 * q) && t) (clear_same a b k (2 * q + 1) (λ x e. agree x (ap (λ n. n / 2) e ∙ omega arith)))

-- a block is clear if all its frames pass the test
pub clear_from : (ok : ℕ → Bool) (k q : ℕ) → ((x : ℕ) → number_at k x ≡ q → ok x ≡ true) → is_clear ok k q ≡ true
clear_from ok zero q all = all q refl
clear_from ok (suc k) q all = and_from _ _
    (clear_from ok k (2 * q) (λ x e. all x (ap (λ n. n / 2) e ∙ omega arith)))
    (clear_from ok k (2 * q + 1) (λ x e. all x (ap (λ n. n / 2) e ∙ omega arith)))

-- a block that is not clear has a frame that does not pass the test
pub clear_fails : (ok : ℕ → Bool) (k q : ℕ) → is_clear ok k q ≡ false → (x : ℕ) × (number_at k x ≡ q) × (ok x ≡ false)
clear_fails ok zero q fails = (q, refl, fails)
clear_fails ok (suc k) q fails = go (and_cases _ _ fails) (clear_fails ok k (2 * q)) (clear_fails ok k (2 * q + 1))
  where
    up : (n : ℕ) → n / 2 ≡ q → (x : ℕ) × (number_at k x ≡ n) × (ok x ≡ false) → (x : ℕ) × (number_at (suc k) x ≡ q) × (ok x ≡ false)
    up n half (x, e, bad) = (x, ap (λ m. m / 2) e ∙ half, bad)

    go : (is_clear ok k (2 * q) ≡ false) ⊎ (is_clear ok k (2 * q + 1) ≡ false)
        → (is_clear ok k (2 * q) ≡ false → (x : ℕ) × (number_at k x ≡ 2 * q) × (ok x ≡ false))
        → (is_clear ok k (2 * q + 1) ≡ false → (x : ℕ) × (number_at k x ≡ 2 * q + 1) × (ok x ≡ false))
        → (x : ℕ) × (number_at (suc k) x ≡ q) × (ok x ≡ false)
    go (inl low) left right = up (2 * q) (omega arith) (left low)
    go (inr high) left right = up (2 * q + 1) (omega arith) (right high)

-- if every frame that passes test a also passes test b, a block that is clear under a is clear under b
pub clear_more : (a b : ℕ → Bool) (k x : ℕ) → ((y : ℕ) → a y ≡ true → b y ≡ true) → is_clear a k (number_at k x) ≡ true → is_clear b k (number_at k x) ≡ true
clear_more a b k x more clear = clear_from b k (number_at k x) (λ y e. more y (clear_at a k y (ap (is_clear a k) e ∙ clear)))

-- each frame that passes the test lies in an open block
pub open_around : (ok : ℕ → Bool) (top x : ℕ) → ok x ≡ true → (j : ℕ) × IsOpen ok top j (number_at j x)
open_around ok zero x pass = (zero, (omega arith, pass, inl refl))
open_around ok (suc top) x pass = go (cases_Bool (is_clear ok (suc top) (number_at (suc top) x))) (open_around ok top x pass)
  where
    go : (is_clear ok (suc top) (number_at (suc top) x) ≡ true) ⊎ (is_clear ok (suc top) (number_at (suc top) x) ≡ false)
        → (j : ℕ) × IsOpen ok top j (number_at j x) → (j : ℕ) × IsOpen ok (suc top) j (number_at j x)
    go (inl clear) below = (suc top, (omega arith, clear, inl refl))
    go (inr fails) (j, (le, clear, inl e)) = (j, (omega arith, clear, inr (ap (λ n. is_clear ok (suc n) (number_at n x / 2)) e ∙ fails)))
    go (inr fails) (j, (le, clear, inr parent)) = (j, (omega arith, clear, inr parent))

-- if a frame lies in an open block, no clear block of order `top` or less around the frame is larger than the open block
pub open_is_greatest : (ok : ℕ → Bool) (top i j x : ℕ) → IsOpen ok top i (number_at i x) → j ≤ top → is_clear ok j (number_at j x) ≡ true → j ≤ i
open_is_greatest ok top i j x (le, clear, end) within greater = go (cases_lt i j) end
  where
    go : (i < j) ⊎ (j ≤ i) → (i ≡ top) ⊎ (is_clear ok (suc i) (number_at i x / 2) ≡ false) → j ≤ i
    go (inr below) e = below
    go (inl above) (inl e) = absurd (omega arith)
    go (inl above) (inr fails) = absurd (both_ways _ fails (clear_below ok x (suc i) j (omega arith) greater))

-- a frame lies in at most one open block
pub one_open : (ok : ℕ → Bool) (top i j x : ℕ) → IsOpen ok top i (number_at i x) → IsOpen ok top j (number_at j x) → i ≡ j
one_open ok top i j x at_i at_j =
    let below = open_is_greatest ok top i j x at_i at_j.0 at_j.1 in
    let above = open_is_greatest ok top j i x at_j at_i.0 at_i.1 in
    omega arith
