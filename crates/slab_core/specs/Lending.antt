-- What a caller that lends bytes knows about the object or the page block.
use Rattle.std.specs.Prelude.{◌≡◌, ℕ, ◌/◌, ◌^◌, false, Some, Ok}
use Rattle.model_core.specs.Machine.{Cache, Machine}
use Rattle.model_core.specs.Slabs.{cache_of}
use Rattle.model_core.specs.CacheOperations.{give_step}
use Rattle.space_core.specs.Content as spaces
use Rattle.buddy_core.specs.Content as buddies
use Rattle.buddy_core.specs.declared.ReservedBlock.{ReservedBlock}
use Rattle.slab_tables.specs.Content.{Content}
use Rattle.machine_changes.specs.Shows.{machine_frame_of, has_slab}

-- a live object of cache c with this many bytes begins at the place
pub record HasObject (m : Machine) (c place bytes : ℕ) : Type 0 where
  pub cache : Cache
  pub cached : cache_of m c ≡ Some cache
  pub size : cache.size ≡ bytes
  pub given : (give_step c place m).answer ≡ Ok tt

-- a page block of order k of tenant t begins at frame f
pub record IsPageAt (r : spaces.Content) (b : buddies.Content) (s : Content) (t f k : ℕ) : Type 0 where
  pub taken : buddies.taken_of (buddies.holding_of t b) f ≡ Some k
  pub page : has_slab s (machine_frame_of s.top r.slots t f) ≡ false

-- a page block of 2 ^ k frames of tenant t begins at this frame, and its slot has this superblock
pub record IsReservedPage (r : spaces.Content) (b : buddies.Content) (s : Content) (t k : ℕ) (reserved : ReservedBlock) : Type 0 where
  pub page : IsPageAt r b s t reserved.first k
  pub under : spaces.superblock_at r.slots t (reserved.first / 2 ^ s.top) ≡ Some reserved.superblock
