-- Where a block would fit if all empty slabs were freed.
use Rattle.std.specs.Prelude.{◌≡◌, ℕ, ◌/◌, ◌^◌, IsSome}
use Rattle.model_core.specs.Blocks.{block, HasFrame, IsAligned, IsTaken}
use Rattle.space_core.specs.Content as spaces
use Rattle.buddy_core.specs.Content as buddies
use Rattle.slab_tables.specs.declared.cache.Cache as own
use Rattle.slab_tables.specs.Content.{Content, kept_at, layout_numbers}
use Rattle.machine_changes.specs.Shows.{IsSlab}

-- frame x of tenant t is in an empty slab
pub record IsIdle (r : spaces.Content) (s : Content) (t x : ℕ) : Type 0 where
  pub number : ℕ
  pub first : ℕ
  pub machine_frame : ℕ
  pub cache : own.Cache
  pub slab : IsSlab r s t number first machine_frame cache
  pub empty : (kept_at s.kept machine_frame).live ≡ 0
  pub within : HasFrame (block first (layout_numbers cache).order) x

-- tenant t holds a slot with an aligned block of order k whose taken frames are all in empty slabs
pub record WouldFit (r : spaces.Content) (b : buddies.Content) (s : Content) (t k : ℕ) : Type 0 where
  pub first : ℕ
  pub aligned : IsAligned s.top (block first k)
  pub held : IsSome (spaces.superblock_at r.slots t (first / 2 ^ s.top))
  pub idle : (x : ℕ) → HasFrame (block first k) x → IsTaken (buddies.taken_of (buddies.holding_of t b)) x → IsIdle r s t x
