use Rattle.std.proofs.Common.{Some, None, sym, ◌∙◌}
use Rattle.trace_check.specs.Reasons.{still_wrong}
use Rattle.trace_check.proofs.ReasonLemmas.{frames_still_told}
use Rattle.trace_check.proofs.frames.still_wrong.Goals as goal

pub returns-in-Some : goal.returns-in-Some
returns-in-Some c w shown =
    frames_still_told c.args.machine.now c.args.tenant c.args.only (Some c.in-Some.frames) c.in-Some.ensures
    ∙ (λ i. still_wrong (sym shown i) c.args.tenant c.args.only)

pub returns-in-None : goal.returns-in-None
returns-in-None c w shown =
    frames_still_told c.args.machine.now c.args.tenant c.args.only None c.in-None.ensures
    ∙ (λ i. still_wrong (sym shown i) c.args.tenant c.args.only)
