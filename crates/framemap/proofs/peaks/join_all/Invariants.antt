use Rattle.std.proofs.Common.{◌≡◌, ℕ, ◌<◌, ◌≤◌, Some, length, slice_get}
use Rattle.framemap.specs.declared.peaks.Peak.{Peak}
use Rattle.framemap.specs.Peaks.{IsJoined}
use Rattle.framemap.proofs.peaks.join_all.Given as goal

-- the columns of the peaks so far are joined, and the other peaks are unchanged
abbrev pub invariant-loop-peak : goal.invariant-loop-peak
invariant-loop-peak l = record {
  tenants : length l.peaks ≡ length l.fn.peaks;
  passed : (t : ℕ) (after : Peak) → t < l.peak-index → slice_get l.peaks t ≡ Some after
      → (before : Peak) × (slice_get l.fn.peaks t ≡ Some before) × IsJoined l.ended before after;
  ahead : (t : ℕ) → l.peak-index ≤ t → slice_get l.peaks t ≡ slice_get l.fn.peaks t;
}
