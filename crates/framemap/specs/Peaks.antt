-- The most taken frames of a tenant in the lines of a column.
use Rattle.std.specs.Prelude.{◌≡◌, ◌≢◌, ℕ, ◌+◌, ◌*◌, ◌/◌, ◌<◌, ◌≤◌, min, List, Option, Some, None, length, slice_get, slice_index, vec_len}
use Rattle.model_core.specs.Machine.{Machine}
use Rattle.model_core.specs.Reports.{frames_taken}
use Rattle.world_core.specs.World.{World}
use Rattle.kernel_core.specs.Content.{KernelContent}
use Rattle.kernel_core.specs.Shows.{Shows}
use Rattle.frame_picture.specs.Bounds.{IsGreatest}
use Rattle.frame_picture.specs.Histories.{columns_of, line_count, most_columns_of, width_of}
use Rattle.frame_picture.specs.declared.history.History.{History}
use Rattle.framemap.specs.declared.peaks.Peak.{Peak}
use Rattle.framemap.specs.declared.peaks.Peaks.{Peaks}

-- the number of taken frames of a machine, or 0 if there is no machine
abbrev pub frames_taken_by : Option Machine → ℕ
frames_taken_by None = 0
frames_taken_by (Some m) = frames_taken m

-- the number of tenant t's taken frames, or 0 if there is no tenant t
abbrev pub frames_taken_in : World → ℕ → ℕ
frames_taken_in w t = frames_taken_by (slice_get w.machines t)

-- `most` is the greatest of the numbers `taken first` to `taken last`
abbrev pub IsMostTaken : (ℕ → ℕ) → ℕ → ℕ → ℕ → Type 0
IsMostTaken taken first last most = IsGreatest (λ n. (count : ℕ) × (first ≤ count) × (count ≤ last) × (taken count ≡ n)) 0 most

-- The peak of a tenant after `lines` lines, of which `ended` columns of `width` lines each have ended. `taken count` is the number
-- of its taken frames after the first `count` lines. A column begins where the column before it ended, so its most is also at
-- least the number of frames that were taken there.
pub record IsPeak (taken : ℕ → ℕ) (lines width ended most_columns : ℕ) (peak : Peak) : Type 0 where
  pub now : peak.now ≡ taken lines
  pub each : (i : ℕ) → i < ended → IsMostTaken taken (i * width) ((i + 1) * width) (slice_index peak.columns.items i)
  pub since : IsMostTaken taken (ended * width) lines peak.since
  pub fits : most_columns ≤ vec_len peak.columns

-- each tenant's peak has the columns of this history
abbrev pub KeepMost : (ℕ → ℕ → ℕ) → History → Peaks → Type 0
KeepMost taken history peaks = (t : ℕ) (peak : Peak) → slice_get peaks.of_tenants.items t ≡ Some peak
    → (peaks.width ≡ width_of history) × (peaks.ended ≡ length (columns_of history))
    × IsPeak (taken t) (line_count history) (width_of history) (length (columns_of history)) (most_columns_of history) peak

-- At the end of a trace, each tenant's peak has, for each column, the most taken frames from the end of the column before it, or
-- from the beginning of the trace, up to its own end.
abbrev pub HaveMost : (ℕ → ℕ → ℕ) → History → Peaks → Type 0
HaveMost taken history peaks = (t i : ℕ) (peak : Peak) → slice_get peaks.of_tenants.items t ≡ Some peak → i < length (columns_of history)
    → IsMostTaken (taken t) (i * width_of history) (min ((i + 1) * width_of history) (line_count history))
    (slice_index peak.columns.items i)

-- The kernel shows the world after one more line than `lines`. Only the named tenant's number of taken frames may have changed.
pub record IsAfterLine (taken : ℕ → ℕ → ℕ) (lines : ℕ) (named : Option ℕ) (kernel : KernelContent) : Type 0 where
  pub world : World
  pub shown : Shows kernel world
  pub after : (t : ℕ) → taken t (lines + 1) ≡ frames_taken_in world t
  pub others : (t : ℕ) → named ≢ Some t → taken t (lines + 1) ≡ taken t lines

-- What a step does to the peak of a tenant

-- one more line has been run, after which this number of frames is taken
abbrev pub IsPeakNoted : ℕ → Peak → Peak → Type 0
IsPeakNoted now old new = (taken : ℕ → ℕ) (lines width ended most_columns : ℕ) → taken (lines + 1) ≡ now → ended * width ≤ lines
    → IsPeak taken lines width ended most_columns old → IsPeak taken (lines + 1) width ended most_columns new

-- the columns are joined in pairs
abbrev pub IsJoined : ℕ → Peak → Peak → Type 0
IsJoined ended old new = (taken : ℕ → ℕ) (lines width most_columns : ℕ) → ended ≤ most_columns → ended * width ≤ lines
    → IsPeak taken lines width ended most_columns old → IsPeak taken lines (2 * width) (ended / 2) most_columns new

-- one more column has ended: after as many lines as the others, or after fewer at the end of a trace
pub record IsEnded (ended : ℕ) (old new : Peak) : Type 0 where
  pub whole : (taken : ℕ → ℕ) (lines width most_columns : ℕ) → ended < most_columns → lines ≡ (ended + 1) * width
      → IsPeak taken lines width ended most_columns old → IsPeak taken lines width (ended + 1) most_columns new
  pub last : ended < vec_len old.columns → slice_index new.columns.items ended ≡ old.since
  pub kept : (i : ℕ) → i < ended → slice_index new.columns.items i ≡ slice_index old.columns.items i

-- each peak is the old peak of the same tenant after a step
abbrev pub EachPeak : (ℕ → Peak → Peak → Type 0) → List Peak → List Peak → Type 0
EachPeak Step old new = (t : ℕ) (after : Peak) → slice_get new t ≡ Some after
    → (before : Peak) × (slice_get old t ≡ Some before) × Step t before after

-- What a step does to the peaks of all tenants. The number of tenants is unchanged.

-- one more line has been run, which may have changed only the named tenant's frames
pub record HaveNoted (named : Option ℕ) (kernel : KernelContent) (old new : Peaks) : Type 0 where
  pub width : new.width ≡ old.width
  pub ended : new.ended ≡ old.ended
  pub tenants : vec_len new.of_tenants ≡ vec_len old.of_tenants
  pub each : (taken : ℕ → ℕ → ℕ) (lines : ℕ) → IsAfterLine taken lines named kernel
      → EachPeak (λ t before after. (width ended most_columns : ℕ) → ended * width ≤ lines
      → IsPeak (taken t) lines width ended most_columns before → IsPeak (taken t) (lines + 1) width ended most_columns after)
      old.of_tenants.items new.of_tenants.items

-- the columns are joined in pairs, unless they have this width already
pub record HaveWidened (wanted : ℕ) (old new : Peaks) : Type 0 where
  pub same : old.width ≡ wanted → new ≡ old
  pub width : new.width ≡ wanted
  pub ended : old.width ≢ wanted → new.ended ≡ old.ended / 2
  pub tenants : vec_len new.of_tenants ≡ vec_len old.of_tenants
  pub joined : old.width ≢ wanted → EachPeak (λ _. IsJoined old.ended) old.of_tenants.items new.of_tenants.items

-- one more column has ended, unless this number of columns has ended already
pub record HaveEnded (columns : ℕ) (old new : Peaks) : Type 0 where
  pub same : columns ≤ old.ended → new ≡ old
  pub width : new.width ≡ old.width
  pub ended : old.ended < columns → new.ended ≡ old.ended + 1
  pub tenants : vec_len new.of_tenants ≡ vec_len old.of_tenants
  pub one : old.ended < columns → EachPeak (λ _. IsEnded old.ended) old.of_tenants.items new.of_tenants.items

-- the most taken frames of a tenant in column i, or 0 if the tenant has no peak
abbrev pub most_of : Option Peak → ℕ → ℕ
most_of None i = 0
most_of (Some peak) i = slice_index peak.columns.items i

abbrev pub most_in_column : Peaks → ℕ → ℕ → ℕ
most_in_column peaks t i = most_of (slice_get peaks.of_tenants.items t) i
