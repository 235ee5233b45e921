use Rattle.trace_check.proofs.ReasonLemmas.{answer_gives, table_gives}
use Rattle.trace_check.proofs.reason.reason_in_reply.Goals as goal

pub returns-in-Some : goal.returns-in-Some
returns-in-Some c text w gathers shown =
    answer_gives c.args.promise w c.args.event.now _ text _ c.reason_in_answer.result (c.in_ok-text.ensures text gathers) c.in-Some.ensures.exact
    (c.reason_in_answer.ensures w shown)

pub returns-in-None : goal.returns-in-None
returns-in-None c text w gathers shown =
    table_gives c.args.promise w c.args.event.now _ text c.reason_in_table.result (c.in_ok-text.ensures text gathers) c.in-None.ensures.exact
    (c.reason_in_table.ensures w shown)
