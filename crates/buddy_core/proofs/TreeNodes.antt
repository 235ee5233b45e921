-- The node of a block at a depth of the tree: no two blocks share a node, the word of each node is stored, and a write to one
-- word changes no other word.
use Rattle.std.proofs.Common.{◌≡◌, ℕ, suc, ◌+◌, ◌-◌, ◌*◌, ◌/◌, ◌^◌, ◌<◌, ◌≤◌, ◌++◌, List, length, take, get_or, set, inl, inr, ap, subst, ◌∙◌, arith}
use Rattle.std.proofs.lemmas.Bool.{cases_order}
use Rattle.std.proofs.lemmas.Nat.{pow_pos}
use Rattle.std.proofs.lemmas.List.{get_or-set_same, get_or-set_other}
use Rattle.std.proofs.Math.Nat.{pow-suc}
use Rattle.std.proofs.Math.Pow.{pow_mono}
use Rattle.std.proofs.Math.Seq.{take-append_seam}
use Rattle.buddy_core.specs.Stored.{StoredTree, IsTree}
use Rattle.buddy_core.specs.Tree.{word_at}

-- if d is less than e, each node at depth d has a smaller number than every node at depth e
node_deeper : (d e q r : ℕ) → q < 2 ^ d → d < e → 2 ^ d + q < 2 ^ e + r
node_deeper d e q r h lt =
    let deep = pow_mono {i = suc d} {j = e} (omega arith) in
    omega (arith, pow-suc 2 d)

pub node_apart : (d e q r : ℕ) → q < 2 ^ d → r < 2 ^ e → 2 ^ d + q ≡ 2 ^ e + r → (d ≡ e) × (q ≡ r)
node_apart d e q r h g s = elim (cases_order d e) [
  | inl same ↦ (same, let p = ap (λ i. 2 ^ i) same in omega arith)
  | inr other ↦ absurd (elim other [ inl lt ↦ let b = node_deeper d e q r h lt in omega arith | inr lt ↦ let b = node_deeper e d r q g lt in omega arith ])
]

-- the number of each node is below 2 ^ (top + 1), so the node's word is among the stored words
pub node_below : (top d k q : ℕ) → d + k ≡ top → q < 2 ^ d → 2 ^ d + q < 2 ^ (top + 1)
node_below top d k q e h =
    let deep = pow_mono {i = suc d} {j = top + 1} (omega arith) in
    omega (arith, pow-suc 2 d)

pub node_stored : (top d k q : ℕ) (words : List ℕ) → length words + 1 ≡ 2 ^ (top + 1) → d + k ≡ top → q < 2 ^ d → 2 ^ d + q ≤ length words
node_stored top d k q words size e h = let below = node_below top d k q e h in omega arith

pub word_at-set_same : (words : List ℕ) (i v d q : ℕ) → i + 1 ≡ 2 ^ d + q → i < length words → word_at (set words i v) d q ≡ v
word_at-set_same words i v d q e h =
    subst (λ j. get_or (set words i v) j 0 ≡ v) (let same : i ≡ 2 ^ d + q - 1 = omega arith in same) (get_or-set_same words i v 0 h)

pub word_at-set_other : (words : List ℕ) (i v d q : ℕ) → (2 ^ d + q ≡ i + 1 → ⊥) → word_at (set words i v) d q ≡ word_at words d q
word_at-set_other words i v d q ne = get_or-set_other words i (2 ^ d + q - 1) v 0 (λ e. ne (omega (arith, pow_pos d)))

-- the lower half of the block of node n has node 2 * n
pub low_node : (d p n : ℕ) → n ≡ 2 ^ d + p → 2 ^ suc d + 2 * p ≡ 2 * n
low_node d p n e = omega (arith, pow-suc 2 d)

pub half_small : (d p q : ℕ) → q / 2 ≡ p → p < 2 ^ d → q < 2 ^ suc d
half_small d p q e h = omega (arith, pow-suc 2 d)

-- if n is the node of block p at depth d, no other block has node n
pub far_whole : (d p n e q : ℕ) → n ≡ 2 ^ d + p → p < 2 ^ d → q < 2 ^ e → (e ≡ d → q ≡ p → ⊥) → 2 ^ e + q ≡ n → ⊥
far_whole d p n e q s b h off t = let both = node_apart e d q p h b (omega arith) in off both.0 both.1

pub far_half : (d p r n e q : ℕ) → n ≡ 2 ^ suc d + r → r / 2 ≡ p → p < 2 ^ d → q < 2 ^ e → (e ≡ suc d → q / 2 ≡ p → ⊥) → 2 ^ e + q ≡ n → ⊥
far_half d p r n e q s a b h off t =
    let both = node_apart e (suc d) q r h (half_small d p r a b) (omega arith) in off both.0 (ap (λ i. i / 2) both.1 ∙ a)

-- if `IsTree` holds for an order and words, it holds for the stored tree that consists of them
pub tree_is : (order : ℕ) (words : List ℕ) (tree : StoredTree) → record { order = order; words = words } ≡ tree → IsTree order words → IsTree tree.order tree.words
tree_is order words tree e is = subst (λ (t : StoredTree). IsTree t.order t.words) e is

-- if `len` is the number of words, the first `len` items of `words ++ rest` are `words`
pub written_back : (words rest : List ℕ) (len : ℕ) → len ≡ length words → take len (words ++ rest) ≡ words
written_back words rest len e = ap (λ n. take n (words ++ rest)) e ∙ take-append_seam words rest
