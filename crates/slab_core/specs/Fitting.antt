-- Frames and blocks that would be free if all empty slabs were freed.
use Rattle.std.specs.Prelude.{◌≡◌, ℕ, ◌+◌, ◌*◌, ◌/◌, ◌%◌, ◌^◌, ◌<◌, ◌≤◌, ◌==◌, Bool, true, List, Some, IsSome, slice_index}
use Rattle.std.specs.Int.{bit_at}
use Rattle.model_core.specs.declared.limits.TheConstants.{MAX_CACHES}
use Rattle.model_core.specs.Blocks.{Block, block, HasFrame, IsAligned, around, IsTaken, IsFree}
use Rattle.klist_core.specs.Places.{place_at}
use Rattle.space_core.specs.Content as spaces
use Rattle.buddy_core.specs.Content as buddies
use Rattle.slab_tables.specs.Content.{Content, head_of}
use Rattle.machine_changes.specs.Fitting.{IsIdle}

-- tenant t has a free block of order k or more
pub record HasFreeBlock (b : buddies.Content) (t k : ℕ) : Type 0 where
  pub found : Block
  pub free : IsFree b.top (buddies.is_held (buddies.holding_of t b)) (buddies.taken_of (buddies.holding_of t b)) found
  pub enough : k ≤ found.order

-- if frame x of tenant t is taken, it lies in an empty slab
abbrev pub IsUnusedFrame : spaces.Content → buddies.Content → Content → ℕ → ℕ → Type 0
IsUnusedFrame r b s t x = IsTaken (buddies.taken_of (buddies.holding_of t b)) x → IsIdle r s t x

-- no taken block of tenant t begins before frame x and contains x
abbrev pub IsBorder : buddies.Content → ℕ → ℕ → Type 0
IsBorder b t x = (f k : ℕ) → buddies.taken_of (buddies.holding_of t b) f ≡ Some k → f < x → f + 2 ^ k ≤ x

-- `next` is a border above `frame`, and no frame from `frame` to `next - 1` is taken, except by empty slabs
pub record IsUnusedTo (r : spaces.Content) (b : buddies.Content) (s : Content) (t frame next : ℕ) : Type 0 where
  pub some : frame < next
  pub unused : (x : ℕ) → frame ≤ x → x < next → IsUnusedFrame r b s t x
  pub border : IsBorder b t next

-- the block of order k at frame f is aligned and lies in a held slot of tenant t; no taken block begins before f and contains f
pub record IsWhole (b : buddies.Content) (t f k : ℕ) : Type 0 where
  pub aligned : IsAligned b.top (block f k)
  pub held : IsSome (buddies.superblock_at (buddies.holding_of t b) (f / 2 ^ b.top))
  pub border : IsBorder b t f

-- no frame of the block of order k at frame f is taken, except frames in empty slabs
abbrev pub IsUnusedBlock : spaces.Content → buddies.Content → Content → ℕ → ℕ → ℕ → Type 0
IsUnusedBlock r b s t f k = (x : ℕ) → HasFrame (block f k) x → IsUnusedFrame r b s t x

-- some empty slab of cache c begins in an aligned block of order k whose frames are not taken, except by empty slabs
pub record WouldFitAround (r : spaces.Content) (b : buddies.Content) (s : Content) (t c k : ℕ) : Type 0 where
  pub first : ℕ
  pub machine_frame : ℕ
  pub empty : place_at s.lists.places machine_frame ≡ Some (head_of t c 2, first)
  pub unused : IsUnusedBlock r b s t (around first k).first k

-- some empty slab of tenant t begins in an aligned block of order k whose frames are not taken, except by empty slabs
abbrev pub WouldFitInSlabs : spaces.Content → buddies.Content → Content → ℕ → ℕ → Type 0
WouldFitInSlabs r b s t k = (c : ℕ) × (c < MAX_CACHES) × WouldFitAround r b s t c k

-- each block of order k whose number satisfies `these` has a taken frame that lies in no empty slab
abbrev pub AreRefused : spaces.Content → buddies.Content → Content → ℕ → ℕ → (ℕ → Bool) → Type 0
AreRefused r b s t k these = (n : ℕ) → these n ≡ true → IsUnusedBlock r b s t (n * 2 ^ k) k → ⊥

-- number n is in the set that the words store: bit n % 64 of word n / 64 is 1
abbrev pub has_number : List ℕ → ℕ → Bool
has_number words n = bit_at (slice_index words (n / 64)) (n % 64) == 1
