use Rattle.std.proofs.Common.{Some, None, sym, ◌∙◌}
use Rattle.trace_check.specs.Reasons.{read_wrong}
use Rattle.trace_check.proofs.ReasonLemmas.{wrong_told}
use Rattle.trace_check.proofs.reason.read_wrong.Goals as goal

pub returns-in-Some : goal.returns-in-Some
returns-in-Some c w shown =
    wrong_told c.args.machine.now c.args.tenant c.args.place c.args.len c.args.bytes.now (Some c.in-Some.wrong) c.if-bytes-len.false c.in-Some.ensures
    ∙ (λ i. read_wrong (sym shown i) c.args.tenant c.args.place c.args.len c.args.bytes.now)

pub returns-in-None : goal.returns-in-None
returns-in-None c w shown =
    wrong_told c.args.machine.now c.args.tenant c.args.place c.args.len c.args.bytes.now None c.if-bytes-len.false c.in-None.ensures
    ∙ (λ i. read_wrong (sym shown i) c.args.tenant c.args.place c.args.len c.args.bytes.now)
