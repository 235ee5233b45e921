use Rattle.std.proofs.Common.{Some, None, sym, ◌∙◌}
use Rattle.trace_check.specs.Reasons.{frames_wrong}
use Rattle.trace_check.proofs.ReasonLemmas.{frames_told_wrong}
use Rattle.trace_check.proofs.frames.frames_wrong.Goals as goal

pub returns-in-Some : goal.returns-in-Some
returns-in-Some c w shown =
    frames_told_wrong c.args.machine.now c.args.tenant c.args.only c.args.frames (Some c.in-Some.bound) c.in-Some.ensures
    ∙ (λ i. frames_wrong (sym shown i) c.args.tenant c.args.only c.args.frames)

pub returns-in-None : goal.returns-in-None
returns-in-None c w shown =
    frames_told_wrong c.args.machine.now c.args.tenant c.args.only c.args.frames None c.in-None.ensures
    ∙ (λ i. frames_wrong (sym shown i) c.args.tenant c.args.only c.args.frames)
