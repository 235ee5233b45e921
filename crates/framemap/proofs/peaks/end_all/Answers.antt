use Rattle.std.proofs.Common.{◌≡◌, ◌≢◌, ℕ, Some, slice_get, slice_index_or, sym, ◌∙◌, arith}
use Rattle.std.proofs.lemmas.List.{length-set}
use Rattle.std.proofs.lemmas.Option.{slice_get_within, slice_get-get_or}
use Rattle.world_core.proofs.MachineLists.{slice_get-set_other}
use Rattle.frame_picture.proofs.ListFilled.{more_filled}
use Rattle.framemap.specs.declared.peaks.Peak.{Peak}
use Rattle.framemap.specs.Peaks.{IsEnded}
use Rattle.framemap.proofs.peaks.end_all.Goals as goal

pub loop-peak-preserved : goal.loop-peak-preserved
loop-peak-preserved c =
    let peaks = c.loop-peak.peaks in
    let at : ℕ = c.loop-peak.peak-index in
    let old : Peak = slice_index_or peaks at c.peak-item.result in
    let new : Peak = c.end_column.new.self in
    let there : slice_get c.args.peaks.now at ≡ Some old =
    sym (c.loop-peak.invariant.ahead at (omega arith))
    ∙ slice_get-get_or peaks at c.peak-item.result (omega (arith, c.loop-peak-test.true, c.loop-peak.auto.peaks)) in record {
      tenants = length-set peaks at new ∙ c.loop-peak.invariant.tenants;
      passed = λ t after less is.
          more_filled (λ k x. (before : Peak) × (slice_get c.args.peaks.now k ≡ Some before) × IsEnded c.args.ended before x)
          peaks at new (omega (arith, c.loop-peak-test.true, c.loop-peak.auto.peaks))
          (λ k x below is. c.loop-peak.invariant.passed k x below is)
          (old, there, c.end_column.ensures) t after less is;
      ahead = λ t up.
          let other : at ≢ t = omega (arith, up) in
          slice_get-set_other peaks at t new other ∙ c.loop-peak.invariant.ahead t (omega (arith, up));
    }

pub returns-clause-one : goal.returns-clause-one
returns-clause-one c = λ t after there.
    c.loop-peak.invariant.passed t after
    (omega (arith, slice_get_within c.loop-peak.peaks t after there, c.loop-peak-test.false, c.loop-peak.auto.peaks)) there
