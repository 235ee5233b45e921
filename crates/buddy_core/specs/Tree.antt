-- The tree of orders of one superblock: node 1 is the whole superblock, of order `top`, and nodes 2i and 2i + 1 are the halves of
-- node i. Node i is stored at index i - 1, so block q of order `top - d` is node 2 ^ d + q. Frames are numbered from 0 in the
-- superblock, and `ok` is true of the available frames.
use Rattle.std.specs.Prelude.{◌≡◌, ℕ, zero, suc, ◌+◌, ◌-◌, ◌*◌, ◌/◌, ◌^◌, ◌<◌, ◌≤◌, nat_lt, Bool, true, false, ◌&&◌, cond, List, length, slice_index, bit_or}
use Rattle.model_core.specs.Numbered.{number_at, is_clear, IsOpen}

-- bit j is 1 if and only if block q of order k, seen as a superblock of its own, contains a free block of order j
abbrev pub orders : (ℕ → Bool) → ℕ → ℕ → ℕ
orders ok zero q = cond (ok q) 1 0
orders ok (suc k) q =
    cond (is_clear ok (suc k) q) (2 ^ suc k) (bit_or (orders ok k (2 * q)) (orders ok k (2 * q + 1)))

-- the word of block q of order k in a superblock; it is 0 if the block lies inside a larger free block
abbrev pub word : (ℕ → Bool) → ℕ → ℕ → ℕ → ℕ
word ok top k q = cond (nat_lt k top && is_clear ok (suc k) (q / 2)) 0 (orders ok k q)

-- the stored word of block q at depth d
abbrev pub word_at : List ℕ → ℕ → ℕ → ℕ
word_at words d q = slice_index words (2 ^ d + q - 1)

-- each stored word is the word of its block, given that the frames for which `ok` is true are available
pub record Shows (top : ℕ) (ok : ℕ → Bool) (words : List ℕ) : Type 0 where
  pub size : length words + 1 ≡ 2 ^ (top + 1)
  pub each : (d k q : ℕ) → d + k ≡ top → q < 2 ^ d → word_at words d q ≡ word ok top k q

-- `node` is the node of the block of order k around frame f. The tree has a word for this node and, if k is below `top`, a word
-- for the node of the block's buddy.
pub record IsNode (top k f node : ℕ) : Type 0 where
  pub at : (d : ℕ) → d + k ≡ top → node ≡ 2 ^ d + number_at k f
  pub some : 0 < node
  pub stored : node < 2 ^ (top + 1)
  pub inner : k < top → 1 < node
  pub half : k < top → 2 * (node / 2) + 1 < 2 ^ (top + 1)

-- frame x lies in the block of order k around frame f
abbrev pub IsWith : ℕ → ℕ → ℕ → Type 0
IsWith k f x = number_at k x ≡ number_at k f

-- All frames of the block of order k around frame f are available in `large`, and none of them is available in `small`. For every
-- other frame, `small` and `large` agree.
pub record IsLess (small large : ℕ → Bool) (k f : ℕ) : Type 0 where
  pub was : (x : ℕ) → IsWith k f x → large x ≡ true
  pub gone : (x : ℕ) → IsWith k f x → small x ≡ false
  pub kept : (x : ℕ) → (IsWith k f x → ⊥) → small x ≡ large x

-- a free block of order j lies inside block q of order k
abbrev pub HasOpen : (ℕ → Bool) → ℕ → ℕ → ℕ → ℕ → Type 0
HasOpen ok top k q j = (n p : ℕ) × (j + n ≡ k) × (number_at n p ≡ q) × IsOpen ok top j p

-- block q of order j is free, and no free block of order j has a lower first frame
abbrev pub IsLeast : (ℕ → Bool) → ℕ → ℕ → ℕ → Type 0
IsLeast ok top j q = IsOpen ok top j q × ((p : ℕ) → p < 2 ^ (top - j) → IsOpen ok top j p → q ≤ p)

-- The words while a change of the available frames from `old` to `new` is carried up the tree. Each node inside the block of
-- order k around frame f has the word that it would have for `new` if the block had a tree of its own. Every other node still has
-- its word for `old`.
pub record Mended (top k f : ℕ) (old new : ℕ → Bool) (words : List ℕ) : Type 0 where
  pub within : (d i e q : ℕ) → d + i ≡ top → q < 2 ^ d → i + e ≡ k → number_at e q ≡ number_at k f → word_at words d q ≡ word new k i q
  pub beyond : (d i q : ℕ) → d + i ≡ top → q < 2 ^ d → ((e : ℕ) → i + e ≡ k → number_at e q ≡ number_at k f → ⊥) → word_at words d q ≡ word old top i q

-- `old` and `new` agree on every frame outside the block of order k around frame f. In each of them, every larger block around
-- this block has a frame that is not available.
pub record IsConfined (top k f : ℕ) (old new : ℕ → Bool) : Type 0 where
  pub same : (x : ℕ) → (IsWith k f x → ⊥) → old x ≡ new x
  pub before : (i : ℕ) → k ≤ i → i < top → is_clear old (suc i) (number_at (suc i) f) ≡ false
  pub after : (i : ℕ) → k ≤ i → i < top → is_clear new (suc i) (number_at (suc i) f) ≡ false
