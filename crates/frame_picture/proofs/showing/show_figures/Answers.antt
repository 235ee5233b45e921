use Rattle.std.proofs.Common.{◌≡◌, ℕ, ◌<◌, Some, slice_get, subst, arith}
use Rattle.std.proofs.lemmas.Option.{slice_get_within}
use Rattle.model_core.specs.Machine.{Machine}
use Rattle.frame_picture.specs.Columns.{AreFigures}
use Rattle.frame_picture.specs.declared.history.Figures.{Figures}
use Rattle.frame_picture.proofs.ListFilled.{more_filled}
use Rattle.frame_picture.proofs.showing.show_figures.Goals as goal

pub loop-own-preserved : goal.loop-own-preserved
loop-own-preserved c = record {
  tenant = omega (arith, c.saturating_add-t.ensures, c.loop-own.invariant.tenant);
  told = λ w m u own shown is less there.
      more_filled
      (λ (j : ℕ) (x : Figures). (n : Machine) → slice_get w.machines j ≡ Some n → AreFigures c.args.kernel.now.order n x)
      c.loop-own.figures c.loop-own.own-index c.figures_of.result (omega arith)
      (λ j x below at n here. c.loop-own.invariant.told w n j x shown here below at)
      (λ n here.
      let agree = shown.agree in
      let below : c.loop-own.own-index < 255 = omega (arith, slice_get_within w.machines c.loop-own.own-index n here, shown.tenants) in
      let e : c.loop-own.own-index ≡ c.loop-own.t = omega (arith, c.loop-own.invariant.tenant, below) in
      c.figures_of.ensures w n shown (subst (λ j. slice_get w.machines j ≡ Some n) e here))
      u own less there m is;
}

pub returns : goal.returns
returns c = λ w m t own shown is there.
    c.loop-own.invariant.told w m t own shown is (omega (arith, slice_get_within c.loop-own.figures t own there)) there
