use Rattle.std.proofs.Common.{Option, Some, Ok, refl, ap, sym, subst}
use Rattle.words_core.specs.Requests.{reply_to}
use Rattle.words_core.specs.declared.reply.Reply.{Reply}
use Rattle.trace_check.specs.Checking.{IsTextVerdict}
use Rattle.trace_check.specs.Tables.{table_of}
use Rattle.trace_check.proofs.CheckLemmas.{as_answer, as_table, read_so}
use Rattle.trace_check.proofs.Ending.{ran_out}
use Rattle.trace_check.proofs.StillKnown.{broken_keeps}
use Rattle.trace_check.proofs.verdicts.judge_text.Goals as goal

pub returns-in_err-judge-in-Some-read_answer-clause-end : goal.returns-in_err-judge-in-Some-read_answer-clause-end
returns-in_err-judge-in-Some-read_answer-clause-end c =
    let reply : Reply = reply_to c.in-Some-read_answer.addressee c.in-Some-read_answer.answer in
    ran_out c.from_residual.result _ _ _ c.from_residual.ensures.1 refl refl (λ came gathers. (
      reply,
      read_so came c.in-Some.bytes.now (Some reply) (c.in-Some.ensures came gathers) (as_answer c.in-Some.bytes.now reply c.in-Some-read_answer.ensures.exact),
      c.in_err-judge-in-Some-read_answer.ensures.memory,
    ))

pub returns-in_ok-judge-in-Some-read_answer-clause-judged : goal.returns-in_ok-judge-in-Some-read_answer-clause-judged
returns-in_ok-judge-in-Some-read_answer-clause-judged c w came shown gathers =
    let reply : Reply = reply_to c.in-Some-read_answer.addressee c.in-Some-read_answer.answer in (
      reply,
      read_so came c.in-Some.bytes.now (Some reply) (c.in-Some.ensures came gathers) (as_answer c.in-Some.bytes.now reply c.in-Some-read_answer.ensures.exact),
      c.in_ok-judge-in-Some-read_answer.ensures.judged w shown,
      broken_keeps _ _ _ w (λ promise is. c.in_ok-judge-in-Some-read_answer.ensures.broken promise (ap (λ verdict. Ok verdict) is)) shown,
    )

pub returns-in-None-clause-judged : goal.returns-in-None-clause-judged
returns-in-None-clause-judged c w came shown gathers =
    subst (λ (found : Option Reply). IsTextVerdict c.judge_table.result c.args.event.now found w c.judge_table.new.machine)
    (sym (read_so came c.in-Some.bytes.now (table_of c.in-Some.bytes.now) (c.in-Some.ensures came gathers) (as_table c.in-Some.bytes.now c.in-None.ensures.exact)))
    (c.judge_table.ensures w shown)
