-- The blocks of a binary buddy system: which blocks are aligned, taken and free, and which free block serves a request. Frames
-- and slots are numbered from 0. `top` is the order of a slot: slot u has 2 ^ top frames, beginning with frame u * 2 ^ top.
-- `held` is true of the held slots. Free blocks are stored nowhere: they follow from the held slots and the taken blocks.
use Rattle.std.specs.Prelude.{◌≡◌, ◌⊎◌, ℕ, ◌+◌, ◌-◌, ◌*◌, ◌/◌, ◌%◌, ◌^◌, ◌<◌, ◌≤◌, Bool, true, ◌==◌, if◌then◌else◌, Option, Some, None}

-- the 2 ^ order frames that begin with frame `first`
pub record Block : Type 0 where
  pub first : ℕ
  pub order : ℕ

abbrev pub block : ℕ → ℕ → Block
block first order = record { first = first; order = order }

-- frame x lies in the block
abbrev pub HasFrame : Block → ℕ → Type 0
HasFrame b x = (b.first ≤ x) × (x < b.first + 2 ^ b.order)

-- the block begins at a multiple of its size and is no larger than a slot, so it lies in one slot
abbrev pub IsAligned : ℕ → Block → Type 0
IsAligned top b = (b.order ≤ top) × (b.first % 2 ^ b.order ≡ 0)

-- the buddy of an aligned block: the other half of the block of the next order around it
abbrev pub buddy : Block → Block
buddy b = block (if b.first % 2 ^ (b.order + 1) == 0 then b.first + 2 ^ b.order else b.first - 2 ^ b.order) b.order

-- the aligned block of order k that has frame x
abbrev pub around : ℕ → ℕ → Block
around x k = block (x / 2 ^ k * 2 ^ k) k

-- the whole of slot u
abbrev pub slot_block : ℕ → ℕ → Block
slot_block top u = block (u * 2 ^ top) top

-- the taken blocks as a map: the first frame of each block maps to the block's order, and every other frame to None
abbrev pub Taken : Type 0
Taken = ℕ → Option ℕ

-- the taken blocks and one more block, of order k at frame f
abbrev pub with_taken : Taken → ℕ → ℕ → Taken
with_taken taken f k g = if g == f then Some k else taken g

-- the taken blocks without the block at frame f
abbrev pub without_taken : Taken → ℕ → Taken
without_taken taken f g = if g == f then None else taken g

-- some taken block has frame x
abbrev pub IsTaken : Taken → ℕ → Type 0
IsTaken taken x = (f k : ℕ) × (taken f ≡ Some k) × HasFrame (block f k) x

-- the block has a taken frame
abbrev pub HasTaken : Taken → Block → Type 0
HasTaken taken b = (x : ℕ) × HasFrame b x × IsTaken taken x

-- The block is aligned, lies in a held slot and has no taken frame. It is a whole slot, or the aligned block of the next order
-- around it has a taken frame. In a buddy system that joins free halves at every release, exactly these blocks are free.
abbrev pub IsFree : ℕ → (ℕ → Bool) → Taken → Block → Type 0
IsFree top held taken b = IsAligned top b × (held (b.first / 2 ^ top) ≡ true) × (HasTaken taken b → ⊥)
    × ((b.order ≡ top) ⊎ HasTaken taken (around b.first (b.order + 1)))

-- The free block that serves a request for order k. It has the least order of all free blocks of order k or more, and the least
-- first frame of all free blocks of its order. The request gets the block's first 2 ^ k frames.
abbrev pub IsChoice : ℕ → (ℕ → Bool) → Taken → ℕ → Block → Type 0
IsChoice top held taken k b = IsFree top held taken b × (k ≤ b.order)
    × ((c : Block) → IsFree top held taken c → k ≤ c.order → (b.order < c.order) ⊎ ((b.order ≡ c.order) × (b.first ≤ c.first)))

-- no free block has order k or more
abbrev pub IsWithout : ℕ → (ℕ → Bool) → Taken → ℕ → Type 0
IsWithout top held taken k = (c : Block) → IsFree top held taken c → k ≤ c.order → ⊥

-- what is true of the taken blocks of every well formed machine
pub record IsSound (top : ℕ) (held : ℕ → Bool) (taken : Taken) : Type 0 where
  -- each taken block is aligned and lies in a held slot
  pub placed : (f k : ℕ) → taken f ≡ Some k → IsAligned top (block f k) × (held (f / 2 ^ top) ≡ true)
  -- two taken blocks that share a frame are the same
  pub apart : (f k g j x : ℕ) → taken f ≡ Some k → taken g ≡ Some j → HasFrame (block f k) x → HasFrame (block g j) x → f ≡ g
