use Rattle.std.proofs.Common.{ℕ, ◌+◌, ◌*◌, ◌^◌, sym, ap, subst, ◌∙◌, arith}
use Rattle.std.specs.Prelude.{is_some}
use Rattle.std.proofs.lemmas.Option.{slice_get_within}
use Rattle.kernel_core.specs.Frames.{IsFrame}
use Rattle.kernel_core.specs.Content.{superblock_at}
use Rattle.kernel_core.proofs.FrameKinds.{frame_of_slot}
use Rattle.kernel_core.proofs.kernel.Kernel.show_frames.Goals as goal

pub returns-after-loop-cell : goal.returns-after-loop-cell
returns-after-loop-cell c = λ m j cell h less is.
    let k = c.args.self.now in
    let not_held = c.loop-cell.invariant j cell (omega (arith, slice_get_within _ j cell is)) is in
    subst (λ x. IsFrame k.order m (c.args.slot * 2 ^ k.order + j) x) (sym not_held)
    (h.slots _ ∙ ap (λ (u : ℕ). is_some (superblock_at k c.args.t u)) ((frame_of_slot c.args.slot k.order j less).0 ∙ sym c.from.ensures)
    ∙ sym (ap is_some c.in-None.ensures.value))
