-- The table of one superblock, as callers see it: a word for each node of a tree. Node 1 is the whole superblock, the halves of
-- node i are nodes 2i and 2i + 1, and node i is at index i - 1. So if q is below 2 ^ d, node 2 ^ d + q is block q of order top -
-- d of the superblock.
use Rattle.std.specs.Prelude.{◌≡◌, ℕ, ◌+◌, ◌-◌, ◌*◌, ◌^◌, ◌<◌, ◌≤◌, ◌↔◌, Some, List, All, length, slice_index}
use Rattle.std.specs.Int.{bit_at}
use Rattle.model_core.specs.Blocks.{Block, block, IsFree}
use Rattle.buddy_core.specs.Content.{Content, holding_of, superblock_at, is_held, taken_of}

-- all frames of block b are frames of block c
abbrev pub Lies : Block → Block → Type 0
Lies b c = (c.first ≤ b.first) × (b.first + 2 ^ b.order ≤ c.first + 2 ^ c.order)

-- the block of node 2 ^ d + q, in the frame numbers of the tenant that has the superblock in slot u
abbrev pub node_block : ℕ → ℕ → ℕ → ℕ → Block
node_block top u d q = block (u * 2 ^ top + q * 2 ^ (top - d)) (top - d)

-- a free block of order j of tenant t lies inside block `node`
abbrev pub HasFree : Content → ℕ → ℕ → Block → Type 0
HasFree c t j node = (f : ℕ) × IsFree c.top (is_held (holding_of t c)) (taken_of (holding_of t c)) (block f j) × Lies (block f j) node

pub record IsTable (c : Content) (m : ℕ) (words : List ℕ) : Type 0 where
  pub size : length words + 1 ≡ 2 ^ (c.top + 1)
  -- bit j of a node's word is 1 if and only if a free block of order j lies inside the node's block
  pub under : (t u : ℕ) → superblock_at (holding_of t c) u ≡ Some m → (d q j : ℕ) → d ≤ c.top → q < 2 ^ d
      → (bit_at (slice_index words (2 ^ d + q - 1)) j ≡ 1) ↔ HasFree c t j (node_block c.top u d q)
  -- if the superblock is in no tenant's slot, all words are 0
  pub bare : ((t u : ℕ) → superblock_at (holding_of t c) u ≡ Some m → ⊥) → All (λ w. w ≡ 0) words
