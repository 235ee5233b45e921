use Rattle.std.proofs.Common.{◌++◌, Option, Some, Result, Err, ap, sym, subst, ◌∙◌}
use Rattle.promise_core.specs.declared.promise.Promise.{Promise}
use Rattle.trace_check.specs.Checking.{IsTextVerdict}
use Rattle.trace_check.specs.Finding.{broken_by, reply_in, text_read}
use Rattle.trace_check.proofs.CheckLemmas.{by_reply, no_reply_judged, read_there}
use Rattle.trace_check.proofs.Ending.{adds_at, stopped_on, stopped_so}
use Rattle.trace_check.proofs.verdicts.judge_gathered.Goals as goal

pub returns-in_err-judge_text-clause-end : goal.returns-in_err-judge_text-clause-end
returns-in_err-judge_text-clause-end c =
    stopped_on c.in_err-judge_text.field-0.0 _ _ _ _ c.from_residual.ensures.1 (stopped_so c.in_err-judge_text.field-0.0 _ _ _ _ (λ is w came more shown count come.
    let (reply, found, allowed) = is came come.gathers in
    adds_at c.args.event.now reply (came ++ more) c.args.machine.now w (read_there c.args.event.now w come count more ∙ found) shown allowed) c.in_err-judge_text.ensures.end)

pub returns-in-Some-Ok-clause-judged : goal.returns-in-Some-Ok-clause-judged
returns-in-Some-Ok-clause-judged c w came replies shown count come reply_text =
    let (reply, found, after, still) = subst (λ (verdict : Option (Result Unit Promise)). IsTextVerdict verdict c.args.event.now (text_read came) w c.judge_text.new.machine)
    (c.in-Some-Ok.is ∙ ap (λ (v : Result Unit Promise). Some v) c.in-Some-Ok.field-0-is) (c.in_ok-judge_text.ensures.judged w came shown come.gathers) in (
      count,
      come.are,
      (
        after.0,
        after.2,
        λ more. by_reply c.args.event.now (came ++ more) w (Some reply) (read_there c.args.event.now w come count more ∙ found) ∙ after.1,
      ),
    )

pub returns-in-Some-Err-clause-judged : goal.returns-in-Some-Err-clause-judged
returns-in-Some-Err-clause-judged c w came replies shown count come reply_text =
    let (reply, found, broken, still) = subst (λ (verdict : Option (Result Unit Promise)). IsTextVerdict verdict c.args.event.now (text_read came) w c.judge_text.new.machine)
    (c.in-Some-Err.is ∙ ap (λ (v : Result Unit Promise). Some v) c.in-Some-Err.field-0-is) (c.in_ok-judge_text.ensures.judged w came shown come.gathers) in (
      λ more may.
          by_reply c.args.event.now (came ++ more) w (Some reply) (read_there c.args.event.now w come count more ∙ found) ∙ broken
          ∙ sym (ap (λ (p : Promise). Err p) c.in-Some-Err.promise-is),
      still,
    )

pub returns-in_ok-broken_by-in-None-clause-judged : goal.returns-in_ok-broken_by-in-None-clause-judged
returns-in_ok-broken_by-in-None-clause-judged c w came replies shown count come reply_text =
    let (none, still) = subst (λ (verdict : Option (Result Unit Promise)). IsTextVerdict verdict c.args.event.now (text_read came) w c.judge_text.new.machine)
    c.in-None.is (c.in_ok-judge_text.ensures.judged w came shown come.gathers) in (
      λ more may.
          let gone = read_there c.args.event.now w come count more ∙ none in
          no_reply_judged c.args.event.now (came ++ more) w _ gone (c.in_ok-broken_by-in-None.ensures.broken w still
          ∙ ap (λ refused. broken_by c.args.event.now refused w) (reply_text more (ap (λ n. reply_in n (came ++ more)) count ∙ gone))),
      c.in_ok-broken_by-in-None.ensures.still w still,
    )
