-- Where a tenant's blocks, objects and bytes lie. Page blocks and slabs share no frame, the live objects of a slab lie on a grid,
-- and bytes were left only in held slots. This is true after every run of allowed replies.
use Rattle.std.specs.Prelude.{◌≡◌, ℕ, ◌+◌, ◌-◌, ◌*◌, ◌/◌, ◌%◌, ◌^◌, ◌<◌, ◌≤◌, true, List, length, filter, Option, Some, None, ◌==◌}
use Rattle.model_core.specs.Blocks.{Block, HasFrame, IsAligned}
use Rattle.model_core.specs.Layouts.{is_alignment}
use Rattle.model_core.specs.Machine.{slot_of}
use Rattle.model_core.specs.Elements.{IsIn}
use Rattle.promise_core.specs.Holdings.{KnownCache, Holdings, has_slot, slab_around}
use Rattle.promise_core.specs.Bytes.{Cell, Cells}

-- the block is a live page block, or the slab of a live object of cache n
abbrev pub Used : Holdings → Option ℕ → Block → Type 0
Used h None b = IsIn b h.pages
Used h (Some n) b = (c : KnownCache) × (p : ℕ) × IsIn c h.caches × IsIn p c.live × (c.number ≡ n) × (b ≡ slab_around c p)

abbrev pub HaveOwnNumbers : Holdings → Type 0
HaveOwnNumbers h = (c d : KnownCache) → IsIn c h.caches → IsIn d h.caches → c.number ≡ d.number → c ≡ d

-- used blocks are aligned and in held slots, two used blocks that share a frame are the same block of the same user, and no two
-- caches have the same number
pub record IsLaid (order : ℕ) (h : Holdings) : Type 0 where
  pub placed : (by : Option ℕ) (b : Block) → Used h by b → IsAligned order b × (has_slot h (b.first / 2 ^ order) ≡ true)
  pub apart : (by other : Option ℕ) (a b : Block) (x : ℕ) → Used h by a → Used h other b → HasFrame a x → HasFrame b x → (by ≡ other) × (a ≡ b)
  pub numbers : HaveOwnNumbers h

-- a slab of the cache fits into a slot, the objects of a slab fit into the slab, and the chunk is a multiple of the alignment
pub record IsFitted (order : ℕ) (c : KnownCache) : Type 0 where
  pub of_slot : c.order ≤ order
  pub sized : 1 ≤ c.size
  pub chunked : c.size ≤ c.chunk
  pub some : 1 ≤ c.count
  pub room : c.count * c.chunk ≤ 4096 * 2 ^ c.order
  pub steps : c.chunk % c.align ≡ 0
  pub aligned : is_alignment c.align ≡ true

-- the live objects in the slab that begins at frame f
abbrev pub live_of_slab : KnownCache → ℕ → List ℕ
live_of_slab c f = filter (λ p. (slab_around c p).first == f) c.live

abbrev pub OnGrid : KnownCache → ℕ → ℕ → Type 0
OnGrid c origin p = (j : ℕ) × (j < c.count) × (p ≡ origin + j * c.chunk)

-- the slab at frame f has space for all its objects from an aligned origin on, and each of its live objects begins at the origin
-- plus a multiple of the chunk
pub record HasGrid (c : KnownCache) (f : ℕ) : Type 0 where
  pub origin : ℕ
  pub aligned : origin % c.align ≡ 0
  pub low : 4096 * f ≤ origin
  pub high : origin + (c.count - 1) * c.chunk + c.size ≤ 4096 * (f + 2 ^ c.order)
  pub on : (p : ℕ) → IsIn p c.live → (slab_around c p).first ≡ f → OnGrid c origin p
  pub few : length (live_of_slab c f) ≤ c.count

pub record IsGridded (order : ℕ) (c : KnownCache) : Type 0 where
  pub fitted : IsFitted order c
  pub grids : (f : ℕ) → HasGrid c f

abbrev pub AllGridded : ℕ → Holdings → Type 0
AllGridded order h = (c : KnownCache) → IsIn c h.caches → IsGridded order c

-- each place at which a byte was left is in a held slot; slots have 2 ^ order frames
abbrev pub AreOfHeld : ℕ → Holdings → Cells → Type 0
AreOfHeld order h cells = (place : ℕ) (cell : Cell) → cells place ≡ Some cell → has_slot h (slot_of order place) ≡ true
