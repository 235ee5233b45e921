-- The private machine of a tenant: what the tenant would have if it were alone. Slots, frames and places are
-- numbered from 0; a frame has FRAME_BYTES places, each of which can have one byte.
use Rattle.std.specs.Prelude.{ℕ, ◌+◌, ◌/◌, ◌^◌, Bool, List, [], ◌∷◌, ◌++◌, map, flat_map, max, Option, Some, None, option_map, if◌then◌else◌, nat_lt, nat_le, ◌&&◌, ◌==◌}
use Rattle.std.specs.List.{list_any}
use Rattle.model_core.specs.declared.limits.TheConstants.{FRAME_BYTES}
use Rattle.model_core.specs.Blocks.{Block, block, Taken}
use Rattle.model_core.specs.Choice.{choose}
use Rattle.model_core.specs.Layouts.{Layout, layout_of}

-- a block cut into objects
pub record Slab : Type 0 where
  pub first : ℕ
  pub colour : ℕ
  -- for each object, in order, whether it is live
  pub live : List Bool

pub record Cache : Type 0 where
  pub number : ℕ
  -- size and alignment of the objects
  pub size : ℕ
  pub align : ℕ
  -- the pattern of constructed objects
  pub pattern : List ℕ
  -- the number of slabs made since the cache was created, modulo the number of colours
  pub made : ℕ
  -- the slabs, by rising first frame
  pub slabs : List Slab

pub record Machine : Type 0 where
  -- the numbers of the held slots, in rising order
  pub slots : List ℕ
  -- the live page blocks, by rising first frame
  pub blocks : List Block
  -- the caches, by rising number
  pub caches : List Cache
  -- the byte at a place, or None if the place has no byte
  pub bytes : ℕ → Option ℕ

unfoldable pub empty_machine : Machine
empty_machine = record { slots = []; blocks = []; caches = []; bytes = λ place. None }

-- the list, which rises by key, with x inserted so that it still rises
abbrev pub put_rising : {X : Type 0} → (X → ℕ) → X → List X → List X
put_rising key x [] = x ∷ []
put_rising key x (y ∷ ys) = if nat_lt (key x) (key y) then x ∷ (y ∷ ys) else y ∷ put_rising key x ys

-- the least number that is at least n and not in the list; the list rises and has no number below n
abbrev pub least_missing : ℕ → List ℕ → ℕ
least_missing n [] = n
least_missing n (x ∷ xs) = if x == n then least_missing (n + 1) xs else n

-- the least number above all numbers of the list
abbrev pub beyond : List ℕ → ℕ
beyond [] = 0
beyond (x ∷ xs) = max (x + 1) (beyond xs)

-- slot u is held
abbrev pub holds : Machine → ℕ → Bool
holds m u = list_any (λ v. v == u) m.slots

-- the slot of a place; slots have 2 ^ order frames
abbrev pub slot_of : ℕ → ℕ → ℕ
slot_of order place = place / FRAME_BYTES / 2 ^ order

-- the place lies in a frame of the block
abbrev pub in_block : ℕ → Block → Bool
in_block place b = nat_le b.first (place / FRAME_BYTES) && nat_lt (place / FRAME_BYTES) (b.first + 2 ^ b.order)

-- how the cache's slabs are cut
abbrev pub layout : Cache → Layout
layout c = layout_of c.size c.align

abbrev pub slab_block : Cache → Slab → Block
slab_block c s = block s.first (layout c).order

abbrev pub slab_blocks : Cache → List Block
slab_blocks c = map (slab_block c) c.slabs

-- the taken blocks: page blocks, and the blocks of slabs
unfoldable pub taken_blocks : Machine → List Block
taken_blocks m = m.blocks ++ flat_map slab_blocks m.caches

-- the order of the first block in the list that begins at frame f, or None if no block begins there
abbrev pub order_in : List Block → Taken
order_in [] f = None
order_in (b ∷ bs) f = if b.first == f then Some b.order else order_in bs f

-- the taken blocks of the machine, as a map from first frames to orders
abbrev pub taken_in : Machine → Taken
taken_in m = order_in (taken_blocks m)

-- the first frame of the block that a request for order k gets, or None if no free block is large enough
unfoldable pub choice : ℕ → Machine → ℕ → Option ℕ
choice order m k = option_map (λ b. b.first) (choose order (holds m) (taken_in m) (beyond m.slots) k)
