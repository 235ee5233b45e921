-- What the internal steps of a give do.
use Rattle.std.specs.Prelude.{◌≡◌, ℕ, ◌/◌, ◌%◌, ◌^◌, ◌<◌, Bool, true, false, List, Some, slice_index, slice_set}
use Rattle.std.specs.Int.Bits.{bit_xor}
use Rattle.model_core.specs.Layouts.{object_place}
use Rattle.space_core.specs.Content as spaces
use Rattle.space_core.specs.Windows.{window_of, with_window}
use Rattle.slab_tables.specs.Content.{Content, kept_at, layout_numbers}
use Rattle.machine_changes.specs.Records.{is_set}
use Rattle.machine_changes.specs.Shows.{is_live, IsSlab}
use Rattle.machine_changes.specs.Changes.{Found}
use Rattle.machine_changes.specs.Objects.{IsNoObject}

-- Object o of cache c of tenant t begins at the place. If o is not live, no live object of the cache begins there.
pub record BeginsAt (r : spaces.Content) (s : Content) (t c place : ℕ) (o : Found) : Type 0 where
  pub slab : IsSlab r s t c o.first o.machine_frame o.cache
  pub index : o.index < (layout_numbers o.cache).count
  pub begins : object_place (layout_numbers o.cache) o.first (kept_at s.kept o.machine_frame).colour o.index ≡ place
  pub dead : is_live r t o.cache (kept_at s.kept o.machine_frame) o.first o.index ≡ false → IsNoObject r s t c place

-- `was` says whether bit k of the bytes was 1: if it was, only this bit changes, to 0; if it was not, nothing changes
pub record IsLowered (before after : List ℕ) (k : ℕ) (was : Bool) : Type 0 where
  pub told : was ≡ is_set (slice_index before (k / 8)) (k % 8)
  pub turned : was ≡ true → after ≡ slice_set before (k / 8) (bit_xor (slice_index before (k / 8)) (2 ^ (k % 8)))
  pub kept : was ≡ false → after ≡ before

-- bit k of the control record that begins at `place` is cleared as in `IsLowered`; the rest of the memory is as before
pub record IsRecordLowered (r r' : spaces.Content) (t place k : ℕ) (was : Bool) : Type 0 where
  pub before : List ℕ
  pub after : List ℕ
  pub read : window_of r t place 32 ≡ Some before
  pub lowered : IsLowered before after k was
  pub written : r' ≡ with_window r t place 32 after
