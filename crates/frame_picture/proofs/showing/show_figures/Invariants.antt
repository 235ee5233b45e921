use Rattle.std.proofs.Common.{◌≡◌, ℕ, ◌-◌, ◌^◌, ◌<◌, Some, slice_get, min}
use Rattle.model_core.specs.Machine.{Machine}
use Rattle.world_core.specs.World.{World}
use Rattle.kernel_core.specs.Shows.{Shows}
use Rattle.frame_picture.specs.Columns.{AreFigures}
use Rattle.frame_picture.specs.declared.history.Figures.{Figures}
use Rattle.frame_picture.proofs.showing.show_figures.Given as goal

-- the figures of the tenants so far are stored, and `t` is the number of the next tenant, capped at 2 ^ 32 - 1
abbrev pub invariant-loop-own : goal.invariant-loop-own
invariant-loop-own l = record {
  tenant : l.t ≡ min l.own-index (2 ^ 32 - 1);
  told : (w : World) (m : Machine) (u : ℕ) (own : Figures) → Shows l.kernel w → slice_get w.machines u ≡ Some m → u < l.own-index
      → slice_get l.figures u ≡ Some own → AreFigures l.kernel.order m own;
}
