use Rattle.std.proofs.Common.{Some, refl, ap, sym, ◌∙◌}
use Rattle.words_core.specs.Requests.{reply_to}
use Rattle.words_core.specs.declared.answer.Answer.TheVariants as Answer
use Rattle.words_core.specs.declared.reply.Reply.{Reply}
use Rattle.trace_check.specs.Tables.{table_of}
use Rattle.trace_check.proofs.CheckLemmas.{as_answer, as_table, no_refusal_told, read_so, table_refuses_nothing}
use Rattle.trace_check.proofs.verdicts.refusal_in.Goals as goal

pub returns-in_err-addressee : goal.returns-in_err-addressee
returns-in_err-addressee c came gathers =
    let bytes = c.in_ok-bytes.bytes.now in
    rw (c.from_residual-in_err-addressee.ensures, read_so came bytes (table_of bytes) (c.in_ok-bytes.ensures came gathers) (as_table bytes c.in_err-addressee.ensures.exact))
    (sym (table_refuses_nothing bytes))

pub returns-in-Refused : goal.returns-in-Refused
returns-in-Refused c came gathers =
    let bytes = c.in_ok-bytes.bytes.now in
    let reply : Reply = reply_to c.in_ok-addressee.addressee (Answer.Refused c.in-Refused.refusal) in
    rw (read_so came bytes (Some reply) (c.in_ok-bytes.ensures came gathers)
    (as_answer bytes reply (c.in_ok-addressee.ensures.exact ∙ ap (λ answer. Some (reply_to c.in_ok-addressee.addressee answer)) c.in-Refused.is))) refl

pub returns-in_default : goal.returns-in_default
returns-in_default c came gathers =
    let bytes = c.in_ok-bytes.bytes.now in
    let reply : Reply = reply_to c.in_ok-addressee.addressee c.in_ok-addressee.answer in
    rw (read_so came bytes (Some reply) (c.in_ok-bytes.ensures came gathers) (as_answer bytes reply c.in_ok-addressee.ensures.exact))
    (sym (no_refusal_told c.in_ok-addressee.addressee c.in_ok-addressee.answer c.in_default.not-Refused))
