-- The object that a take has allocated.
use Rattle.std.specs.Prelude.{◌≡◌, ℕ, Result, Ok, Err, Some}
use Rattle.model_core.specs.declared.refusals.TakeRefusal.{TakeRefusal}
use Rattle.space_core.specs.Content as spaces
use Rattle.space_core.specs.Windows.{home_of}
use Rattle.slab_tables.specs.Content.{Content}
use Rattle.machine_changes.specs.Changes.{Found}
use Rattle.machine_changes.specs.Objects.{IsLiveObject}
use Rattle.slab_core.specs.declared.taking.Taken.{Taken}

-- the first place of the object that was taken, or the refusal
abbrev pub place_taken : Result Taken TakeRefusal → Result ℕ TakeRefusal
place_taken (Ok taken) = Ok taken.place
place_taken (Err refusal) = Err refusal

-- a live object of cache c of tenant t, of `taken.size` bytes, begins at `taken.place` and lies wholly in `taken.superblock`
pub record IsTakenObject (r : spaces.Content) (s : Content) (t c : ℕ) (taken : Taken) : Type 0 where
  pub object : Found
  pub live : IsLiveObject r s t c taken.place object
  pub size : taken.size ≡ object.cache.layout.size
  pub home : home_of r t taken.place taken.size ≡ Some taken.superblock
