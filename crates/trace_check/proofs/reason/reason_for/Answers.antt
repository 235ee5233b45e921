use Rattle.std.proofs.Common.{Some, ap}
use Rattle.trace_check.specs.Reasons.{answer_read, table_read}
use Rattle.trace_check.specs.declared.reason.Reason.{Reason}
use Rattle.trace_check.proofs.ReasonLemmas.{in_reply}
use Rattle.trace_check.proofs.reason.reason_for.Goals as goal

pub returns-in-Form : goal.returns-in-Form
returns-in-Form c text w gathers shown = rw c.in-Form.is (ap (λ due. Some due) (c.form_due.ensures w shown))

pub returns-in-Refusals : goal.returns-in-Refusals
returns-in-Refusals c text w gathers shown = rw c.in-Refusals.is (ap (λ due. Some (Reason.Due due)) (c.due.ensures w shown))

pub returns-in_default : goal.returns-in_default
returns-in_default c text w gathers shown =
    in_reply c.args.promise w c.args.event.now (answer_read text) (table_read text) c.reason_in_reply.result c.in_default.not-Form c.in_default.not-Refusals
    (c.reason_in_reply.ensures text w gathers shown)
