-- The premise of the laws: facts about one tenant that hold if the parts agree.
use Rattle.std.specs.Prelude.{◌≡◌, ℕ, ◌<◌, Some, is_some}
use Rattle.model_core.specs.declared.limits.TheConstants.{WIDE_FRAMES}
use Rattle.model_core.specs.Blocks.{IsSound}
use Rattle.model_core.specs.Layouts.{IsLayout}
use Rattle.layout_core.specs.Objects.{IsColour}
use Rattle.klist_core.specs.Places.{place_at}
use Rattle.space_core.specs.Content as spaces
use Rattle.buddy_core.specs.Content as buddies
use Rattle.slab_tables.specs.declared.cache.Cache as own
use Rattle.slab_tables.specs.Content.{Content, kept_at, layout_numbers}
use Rattle.machine_changes.specs.Shows.{IsSlab, machine_frame_of}

-- the slab's block is taken, and the layout of its cache and the colour of the slab are valid
pub record IsStanding (b : buddies.Content) (s : Content) (t f n : ℕ) (cache : own.Cache) : Type 0 where
  pub taken : buddies.taken_of (buddies.holding_of t b) f ≡ Some (layout_numbers cache).order
  pub layout : IsLayout cache.layout.size cache.layout.align (layout_numbers cache)
  pub colour : IsColour cache.layout (kept_at s.kept n).colour

pub record IsSteady (r : spaces.Content) (b : buddies.Content) (s : Content) (t : ℕ) : Type 0 where
  pub stands : (c f n : ℕ) (cache : own.Cache) → IsSlab r s t c f n cache → IsStanding b s t f n cache
  -- if a machine frame in a slot of the tenant has a list entry, the entry is a slab of the tenant
  pub listed : (f n head key : ℕ) → machine_frame_of s.top r.slots t f ≡ Some n → place_at s.lists.places n ≡ Some (head, key)
      → (c : ℕ) × (cache : own.Cache) × IsSlab r s t c f n cache
  pub sound : IsSound s.top (λ u. is_some (spaces.superblock_at r.slots t u)) (buddies.taken_of (buddies.holding_of t b))
  -- taken blocks begin at frames below WIDE_FRAMES, so their first places fit in 32 bits
  pub few : (f k : ℕ) → buddies.taken_of (buddies.holding_of t b) f ≡ Some k → f < WIDE_FRAMES
  -- no superblock is in two slots of the tenant
  pub apart : (u v m : ℕ) → spaces.superblock_at r.slots t u ≡ Some m → spaces.superblock_at r.slots t v ≡ Some m → u ≡ v
