-- How the memory changes when all superblocks of one tenant are taken back.
use Rattle.std.specs.Prelude.{◌≡◌, ◌≢◌, ℕ, Option, None, length, map, count_by, if◌then◌else◌}
use Rattle.model_core.specs.declared.owner.Owner.{Owner}
use Rattle.model_core.specs.Owners.{is_of}
use Rattle.space_core.specs.Content.{Content, superblock_at}
use Rattle.space_core.specs.Laws.{IsSameFor}
use Rattle.kernel_core.specs.Content.{MarksFollow}

-- the owner, or `None` if the owner is tenant t
abbrev pub owner_without : ℕ → Option Owner → Option Owner
owner_without t owner = if is_of t owner then None else owner

-- All superblocks of tenant t are taken back; `told` is their number. These superblocks are marked, and no byte changes. All
-- other tenants keep their superblocks.
pub record GivesUp (old new : Content) (t told : ℕ) : Type 0 where
  pub count : told ≡ count_by (is_of t) old.owners
  pub unit : new.unit ≡ old.unit
  pub rows : length new.slots ≡ length old.slots
  pub owners : new.owners ≡ map (owner_without t) old.owners
  pub banks : new.banks ≡ old.banks
  pub marks : MarksFollow old new
  pub slots : (slot : ℕ) → superblock_at new.slots t slot ≡ None
  pub others : (u : ℕ) → u ≢ t → IsSameFor u old new
