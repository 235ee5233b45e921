-- The numbers of blocks and of their nodes, and which blocks are clear. A block is clear if all its frames pass the test `ok`.
use Rattle.std.proofs.Common.{◌≡◌, ℕ, zero, suc, ◌+◌, ◌-◌, ◌*◌, ◌/◌, ◌^◌, ◌<◌, ◌≤◌, Bool, true, false, ◌⊎◌, inl, inr, refl, sym, ap, subst, ◌∙◌, arith}
use Rattle.std.proofs.lemmas.Bool.{and_parts, and_left, cases_Bool, both_ways, cases_eq}
use Rattle.std.proofs.lemmas.Nat.{shr_below, div_below, pow_pos}
use Rattle.std.proofs.Math.Nat.{pow-suc}
use Rattle.model_core.specs.Numbered.{number_at, is_clear}
use Rattle.model_core.proofs.BlockHalves.{clear_at}
use Rattle.model_core.proofs.BlocksByNumber.{number_is}

-- if q / 2 is p, q is 2 * p or 2 * p + 1
pub halves : (p q : ℕ) → q / 2 ≡ p → (q ≡ 2 * p) ⊎ (q ≡ 2 * p + 1)
halves p q e = elim (cases_eq q (2 * p)) [ inl h ↦ inl h | inr h ↦ inr (omega (arith, h)) ]

-- if the number of the block of order k around frame x is halved n times, the result is the number of the block of order k + n
-- around x
pub number_above : (n k m x : ℕ) → k + n ≡ m → number_at n (number_at k x) ≡ number_at m x
number_above zero k m x e = ap (λ i. number_at i x) (let h : k ≡ m = omega arith in h)
number_above (suc n) k zero x e = absurd (omega arith)
number_above (suc n) k (suc m) x e = ap (λ i. i / 2) (number_above n k m x (omega arith))

-- a half of a clear block is clear
pub half_clear : (ok : ℕ → Bool) (k p q : ℕ) → is_clear ok (suc k) p ≡ true → q / 2 ≡ p → is_clear ok k q ≡ true
half_clear ok k p q h e =
    let both = and_parts (is_clear ok k (2 * p)) (is_clear ok k (2 * p + 1)) h in
    elim (halves p q e) [ inl s ↦ subst (λ i. is_clear ok k i ≡ true) (sym s) both.0 | inr s ↦ subst (λ i. is_clear ok k i ≡ true) (sym s) both.1 ]

-- each block inside a clear block is clear
pub inside_clear : (ok : ℕ → Bool) (n k m q : ℕ) → k + n ≡ m → is_clear ok m (number_at n q) ≡ true → is_clear ok k q ≡ true
inside_clear ok zero k m q e h = subst (λ i. is_clear ok i q ≡ true) (let s : m ≡ k = omega arith in s) h
inside_clear ok (suc n) k zero q e h = absurd (omega arith)
inside_clear ok (suc n) k (suc m) q e h = inside_clear ok n k m q (omega arith) (half_clear ok m _ (number_at n q) h refl)

-- a block is not clear if one of its frames does not pass the test
pub frame_not_clear : (ok : ℕ → Bool) (k x : ℕ) → ok x ≡ false → is_clear ok k (number_at k x) ≡ false
frame_not_clear ok k x h = elim (cases_Bool (is_clear ok k (number_at k x))) [ inl t ↦ absurd (both_ways (ok x) h (clear_at ok k x t)) | inr f ↦ f ]

-- a block is not clear if none of its frames passes the test
pub none_clear : (ok : ℕ → Bool) (k q : ℕ) → ((x : ℕ) → number_at k x ≡ q → ok x ≡ false) → is_clear ok k q ≡ false
none_clear ok zero q h = h q refl
none_clear ok (suc k) q h = and_left _ _ (none_clear ok k (2 * q) (λ x e. h x (omega arith)))

-- in a superblock of order d + k, each block of order k has a number below 2 ^ d
pub number_below : (d k x : ℕ) → x < 2 ^ (d + k) → number_at k x < 2 ^ d
number_below d k x h = subst (λ n. n < 2 ^ d) (sym (number_is k x)) (shr_below x d k h)

-- in a superblock of order k, the only block of order k has number 0
pub number_whole : (k x : ℕ) → x < 2 ^ k → number_at k x ≡ 0
number_whole k x h = let below = div_below x (2 ^ k) 1 (pow_pos k) (omega arith) in omega (arith, number_is k x)

-- the node of the block of order k around a frame is the frame's own node, shifted right by k bits
pub number_node : (d k f : ℕ) → number_at k (2 ^ (d + k) + f) ≡ 2 ^ d + number_at k f
number_node d zero f = ap (λ i. 2 ^ i + f) (let e : d + 0 ≡ d = omega arith in e)
number_node d (suc k) f =
    let step = ap (λ i. number_at k (2 ^ i + f)) (let e : d + suc k ≡ suc d + k = omega arith in e) ∙ number_node (suc d) k f in
    omega (arith, step, pow-suc 2 d)

pub node_from_frame : (top k f m : ℕ) → k ≤ top → m ≡ 2 ^ top + f → m / 2 ^ k ≡ 2 ^ (top - k) + number_at k f
node_from_frame top k f m h e =
    sym (number_is k m) ∙ ap (λ i. number_at k i) e ∙ ap (λ i. number_at k (2 ^ i + f)) (let s : top ≡ (top - k) + k = omega arith in s) ∙ number_node (top - k) k f
