use Rattle.std.proofs.Common.{◌≡◌, ℕ, ◌<◌, ◌≤◌, Some, length, slice_get}
use Rattle.framemap.specs.declared.peaks.Peak.{Peak}
use Rattle.framemap.specs.Peaks.{IsEnded}
use Rattle.framemap.proofs.peaks.end_all.Given as goal

-- one more column of the peaks so far has ended, and the other peaks are unchanged
abbrev pub invariant-loop-peak : goal.invariant-loop-peak
invariant-loop-peak l = record {
  tenants : length l.peaks ≡ length l.fn.peaks;
  passed : (t : ℕ) (after : Peak) → t < l.peak-index → slice_get l.peaks t ≡ Some after
      → (before : Peak) × (slice_get l.fn.peaks t ≡ Some before) × IsEnded l.ended before after;
  ahead : (t : ℕ) → l.peak-index ≤ t → slice_get l.peaks t ≡ slice_get l.fn.peaks t;
}
