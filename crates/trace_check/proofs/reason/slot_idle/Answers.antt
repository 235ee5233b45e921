use Rattle.std.proofs.Common.{Some, None, sym, ◌∙◌}
use Rattle.trace_check.specs.Reasons.{slot_idle}
use Rattle.trace_check.proofs.ReasonLemmas.{idle_told}
use Rattle.trace_check.proofs.reason.slot_idle.Goals as goal

pub returns-in-Some : goal.returns-in-Some
returns-in-Some c w shown =
    idle_told c.args.machine.now c.args.tenant c.args.slot (Some c.in-Some.slot) c.in-Some.ensures
    ∙ (λ i. slot_idle (sym shown i) c.args.tenant c.args.slot)

pub returns-in-None : goal.returns-in-None
returns-in-None c w shown =
    idle_told c.args.machine.now c.args.tenant c.args.slot None c.in-None.ensures
    ∙ (λ i. slot_idle (sym shown i) c.args.tenant c.args.slot)
