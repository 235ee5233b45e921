use Rattle.std.proofs.Common.{◌≡◌, ℕ, Some, slice_get, vec_len}
use Rattle.framemap.specs.declared.peaks.Peak.{Peak}
use Rattle.framemap.specs.Peaks.{IsPeak}
use Rattle.framemap.proofs.peaks.Peaks.new.Given as goal

-- each round of the loop has added the peak of a tenant that has no frame
abbrev pub invariant-loop-tenant : goal.invariant-loop-tenant
invariant-loop-tenant l = record {
  tenants : vec_len l.of_tenants ≡ l._tenant;
  none : (t : ℕ) (peak : Peak) → slice_get l.of_tenants.items t ≡ Some peak
      → (taken : ℕ → ℕ) (width : ℕ) → taken 0 ≡ 0 → IsPeak taken 0 width 0 l.most_columns peak;
}
