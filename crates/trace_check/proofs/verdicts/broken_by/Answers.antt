use Rattle.std.proofs.Common.{Result, subst}
use Rattle.words_core.specs.Requests.{reply_to}
use Rattle.words_core.specs.declared.answer.Answer.TheVariants as Answer
use Rattle.promise_core.specs.declared.promise.Promise.{Promise}
use Rattle.promise_core.specs.Promises.{allowed}
use Rattle.reply_judge.specs.KnownMachine.{IsVerdict, ShowsKnown}
use Rattle.trace_check.proofs.StillKnown.{refusal_keeps}
use Rattle.trace_check.proofs.verdicts.broken_by.Goals as goal

pub returns-in-Ok-clause-still : goal.returns-in-Ok-clause-still
returns-in-Ok-clause-still c w shown =
    let judged = subst
    (λ (verdict : Result Unit Promise). IsVerdict verdict (allowed c.args.event.now (reply_to c.in-Some.addressee (Answer.Refused c.in-Some.refusal)) w) c.judge.new.self)
    c.in-Ok.is (c.in_ok-judge.ensures.judged w shown) in
    subst (ShowsKnown c.judge.new.self) (refusal_keeps c.args.event.now c.in-Some.addressee c.in-Some.refusal w judged.0 judged.1) judged.2
