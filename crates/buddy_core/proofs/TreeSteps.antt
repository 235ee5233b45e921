-- One step of the loops of `climb`, `split` and `join`, in terms of the code. The step goes from the block of order k around
-- frame f to the block of order k + 1 around f.
use Rattle.std.proofs.Common.{◌≡◌, ℕ, suc, ◌+◌, ◌-◌, ◌*◌, ◌/◌, ◌^◌, ◌<◌, ◌≤◌, Bool, List, length, get_or, set, sym, ap₂, subst, ◌∙◌, arith, add-one}
use Rattle.std.specs.Prelude.{bit_or}
use Rattle.std.proofs.lemmas.Nat.{pow_pos}
use Rattle.std.proofs.Math.Nat.{pow-suc}
use Rattle.model_core.specs.Numbered.{number_at, IsOpen}
use Rattle.buddy_core.specs.Tree.{word_at, IsLess, Mended, IsConfined, IsNode}
use Rattle.buddy_core.proofs.TreeNumbers.{number_below, node_from_frame}
use Rattle.buddy_core.proofs.TreeNodes.{node_below}
use Rattle.buddy_core.proofs.TreeChanges.{confined_up, climb_step, reserve_split, release_join, release_open}

-- 2 ^ (top - k) + number_at k f is the node of the block of order k around frame f
pub node_is : (top k f node : ℕ) → k ≤ top → f < 2 ^ top → node ≡ 2 ^ (top - k) + number_at k f → IsNode top k f node
node_is top k f node le b e =
    let below = number_below (top - k) k f (subst (λ j. f < 2 ^ j) (let s : top ≡ top - k + k = omega arith in s) b) in
    let stored = node_below top (top - k) k (number_at k f) (omega arith) below in
    let some = pow_pos (top - k) in
    record {
      at = λ d s. subst (λ j. node ≡ 2 ^ j + number_at k f) (let t : top - k ≡ d = omega arith in t) e;
      some = omega arith;
      stored = omega arith;
      inner = λ lt. (deep lt).0;
      half = λ lt. (deep lt).1;
    }
  where
    deep : k < top → (1 < node) × (2 * (node / 2) + 1 < 2 ^ (top + 1))
    deep lt =
        let d = top - suc k in
        let is : node ≡ 2 ^ suc d + number_at k f = subst (λ j. node ≡ 2 ^ j + number_at k f) (let t : top - k ≡ suc d = omega arith in t) e in
        let below : number_at (suc k) f < 2 ^ d = number_below d (suc k) f (subst (λ j. f < 2 ^ j) (let s : top ≡ d + suc k = omega arith in s) b) in
        let high = node_below top (suc d) k (2 * number_at (suc k) f + 1) (omega arith) (omega (arith, pow-suc 2 d)) in
        (omega (arith, pow-suc 2 d, pow_pos d), omega (arith, pow-suc 2 d))

-- the node of the block of order k around a frame is the frame's own node, shifted right by k bits
pub node_shifted : (top k f leaf node : ℕ) → k ≤ top → f < 2 ^ top → leaf ≡ 2 ^ top + f → node ≡ leaf / 2 ^ k → IsNode top k f node
node_shifted top k f leaf node le b at e = node_is top k f node le b (e ∙ node_from_frame top k f leaf le at)

module _ (top k f node : ℕ) (b : f < 2 ^ top) (lt : k < top) (at : IsNode top k f node) where
  depth : ℕ
  depth = top - suc k

  deep : depth + suc k ≡ top
  unfolding depth
  deep = omega arith

  is : node ≡ 2 ^ suc depth + number_at k f
  is = at.at (suc depth) (let d = deep in omega arith)

  up : node / 2 ≡ 2 ^ depth + number_at (suc k) f
  up = let e = is in omega (arith, pow-suc 2 depth)

  -- node / 2 is the node of the block of order k + 1 around frame f
  pub node_up : IsNode top (k + 1) f (node / 2)
  node_up = node_is top (k + 1) f (node / 2) (omega arith) b
      (subst (λ j. node / 2 ≡ 2 ^ (top - j) + number_at j f) (sym (add-one k)) (subst (λ j. node / 2 ≡ 2 ^ j + number_at (suc k) f) (let e : depth ≡ top - suc k = (let d = deep in omega arith) in e) up))

  rise : (old new : ℕ → Bool) (after : List ℕ) → Mended top (suc k) f old new after → Mended top (k + 1) f old new after
  rise old new after m = subst (λ i. Mended top i f old new after) (sym (add-one k)) m

  module _ (words : List ℕ) (size : length words + 1 ≡ 2 ^ (top + 1)) (other : ℕ) (pair : other + node ≡ 4 * (node / 2) + 1) where
    -- the block of order k + 1 around frame f has two halves: this is the number of the half without frame f
    half : ℕ
    half = 4 * number_at (suc k) f + 1 - number_at k f

    half_pair : half + number_at k f ≡ 4 * number_at (suc k) f + 1
    unfolding half
    half_pair = omega arith

    half_at : other ≡ 2 ^ suc depth + half
    half_at = let e = is in let u = up in let h = half_pair in omega (arith, pow-suc 2 depth)

    both_words : (v : ℕ) → v ≡ bit_or (get_or words (node - 1) 0) (get_or words (other - 1) 0)
        → v ≡ bit_or (word_at words (suc depth) (number_at k f)) (word_at words (suc depth) half)
    both_words v e = e ∙ ap₂ (λ i j. bit_or (get_or words (i - 1) 0) (get_or words (j - 1) 0)) is half_at

    pub step_climb : (old new : ℕ → Bool) (v : ℕ) → v ≡ bit_or (get_or words (node - 1) 0) (get_or words (other - 1) 0) → Mended top k f old new words × IsConfined top k f old new
        → Mended top (k + 1) f old new (set words (node / 2 - 1) v) × IsConfined top (k + 1) f old new
    step_climb old new v e (m, c) = (
      rise old new (set words (node / 2 - 1) v) (climb_step top k f depth old new words b size deep c m (node / 2) half v up half_pair (both_words v e)),
      subst (λ i. IsConfined top i f old new) (sym (add-one k)) (confined_up top k f old new c),
    )

    pub step_split : (order from : ℕ) (large small : ℕ → Bool) → order ≤ k → k < from → IsOpen large top from (number_at from f) → IsLess small large order f
        → (one v : ℕ) → one ≡ 2 ^ k → v ≡ bit_or (get_or words (node - 1) 0) one → Mended top k f large small words
        → Mended top (k + 1) f large small (set (set words (other - 1) one) (node / 2 - 1) v)
    step_split order from large small le below free less one v shift e m =
        let place = half_at in
        rise large small (set (set words (other - 1) one) (node / 2 - 1) v)
        (subst (λ n. Mended top (suc k) f large small (set (set words (other - 1) n) (node / 2 - 1) v)) (sym shift)
        (reserve_split top order from k f depth large small words b size deep le less free below m (node / 2) half up half_pair (other - 1) v (omega (arith, pow_pos depth))
        (e ∙ ap₂ (λ i j. bit_or (get_or words (i - 1) 0) j) is shift)))

    pub step_join : (order : ℕ) (small large : ℕ → Bool) → order ≤ k → IsLess small large order f → (one : ℕ) → one ≡ 2 ^ k → get_or words (other - 1) 0 ≡ one
        → Mended top k f small large (set words (node - 1) (2 ^ k)) → Mended top (k + 1) f small large (set (set (set words (other - 1) 0) (node - 1) 0) (node / 2 - 1) (2 ^ (k + 1)))
    step_join order small large le less one shift free m =
        let place = half_at in
        subst (λ i. Mended top i f small large (set (set (set words (other - 1) 0) (node - 1) 0) (node / 2 - 1) (2 ^ i))) (sym (add-one k))
        (release_join top order k f depth small large words b size deep le less node half is half_pair m (other - 1) (omega (arith, pow_pos depth)) (node / 2) (free ∙ shift) up)

    pub step_open : (order : ℕ) (small large : ℕ → Bool) → order ≤ k → IsLess small large order f → (one : ℕ) → one ≡ 2 ^ k → (get_or words (other - 1) 0 ≡ one → ⊥)
        → Mended top k f small large (set words (node - 1) (2 ^ k)) → IsOpen large top k (number_at k f)
    step_open order small large le less one shift ne m =
        let place = half_at in
        release_open top order k f depth small large words b size deep le less node half is half_pair m (other - 1) (omega (arith, pow_pos depth)) (λ e. ne (e ∙ sym shift))
