use Rattle.std.proofs.Common.{◌≡◌, ℕ, List, Some, slice_get, subst, arith}
use Rattle.framemap.specs.declared.peaks.Peak.{Peak}
use Rattle.framemap.specs.Peaks.{IsPeak}
use Rattle.framemap.proofs.PeakLemmas.{all_more}
use Rattle.framemap.proofs.peaks.Peaks.new.Goals as goal

pub loop-tenant-preserved : goal.loop-tenant-preserved
loop-tenant-preserved c = record {
  tenants = omega (arith, c.in_ok-push.ensures.len, c.loop-tenant.invariant.tenants);
  none = λ t peak there.
      all_more (λ it. (taken : ℕ → ℕ) (width : ℕ) → taken 0 ≡ 0 → IsPeak taken 0 width 0 c.args.most_columns it)
      c.loop-tenant.of_tenants.items c.in_ok-new.field-0 c.loop-tenant.invariant.none c.in_ok-new.ensures t peak
      (subst (λ (xs : List Peak). slice_get xs t ≡ Some peak) c.in_ok-push.ensures.items there);
}
