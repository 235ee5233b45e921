use Rattle.std.proofs.Common.{◌≡◌, ◌++◌, suc, ◌+◌, ap, sym, ◌∙◌, append_assoc, arith}
use Rattle.std.proofs.lemmas.Bool.{MatchBool-at_true, MatchBool-at_false}
use Rattle.std.proofs.lemmas.Result.{IfOk-from_err}
use Rattle.trace_check.specs.Finding.{broken_by, more_lines, refusal_read, reply_in}
use Rattle.trace_check.proofs.CheckLemmas.{no_reply_judged, none_there, read_first}
use Rattle.trace_check.proofs.Ending.{ended_where}
use Rattle.trace_check.proofs.verdicts.judge_lines.Goals as goal

pub returns-in_err-gather-clause-judged : goal.returns-in_err-gather-clause-judged
returns-in_err-gather-clause-judged g c =
    let given = c.in_err-gather.ensures.come in (given.0, given.1, λ w came shown count first. IfOk-from_err _ _ c.from_residual.ensures.0, given.3)

pub returns-in_err-broken_by-clause-judged : goal.returns-in_err-broken_by-clause-judged
returns-in_err-broken_by-clause-judged g c =
    let given = c.in_ok-gather.ensures.come in (given.0, given.1, λ w came shown count first. IfOk-from_err _ _ c.from_residual-in_err-broken_by.ensures.0, given.3)

pub returns-then-not-branch-clause-judged : goal.returns-then-not-branch-clause-judged
returns-then-not-branch-clause-judged g c =
    let given = c.in_ok-gather.ensures.come in (
      given.0,
      given.1,
      λ w came shown count first. (
        λ more may.
            let (ended, gone) = MatchBool-at_false _ _ c.if-not-branch.true (given.2 1 (suc c.args.more) came (omega arith) first) in
            no_reply_judged c.args.event.now ((came ++ given.0) ++ more) w _
            (none_there c.gather.new.replies (suc c.args.more) (came ++ given.0) c.args.event.now w ended gone (omega (arith, count)) more may)
            (c.in_ok-broken_by.ensures.broken w shown ∙ ap (λ refused. broken_by c.args.event.now refused w)
            (c.refusal_in-refused.ensures came first.gathers
            ∙ ap refusal_read (sym (read_first first (given.0 ++ more)) ∙ ap (reply_in 1) (sym (append_assoc came given.0 more))))),
        c.in_ok-broken_by.ensures.still w shown,
      ),
      given.3,
    )

pub returns-clause-judged : goal.returns-clause-judged
returns-clause-judged g c =
    let given = c.in_ok-gather.ensures.come in (
      given.0,
      given.1,
      λ w came shown count first.
          let come = MatchBool-at_true _ _ c.if-not-branch.false (given.2 1 (c.args.more + 1) came (omega arith) first) in
          let total : c.args.more + 1 ≡ suc (more_lines c.args.event.now w) = omega (arith, count) in
          c.judge_gathered.ensures.judged w (came ++ given.0) _ shown total come (λ more gone. c.refusal_in-refused.ensures came first.gathers
          ∙ ap refusal_read (sym (read_first first (given.0 ++ more)) ∙ ap (reply_in 1) (sym (append_assoc came given.0 more)))),
      given.3,
    )

pub returns-clause-end : goal.returns-clause-end
returns-clause-end g c =
    let given = c.in_ok-gather.ensures.come in
    ended_where c.judge_gathered.result _ _ _ c.in_ok-gather.ensures.end.1 (λ adds. (
      given.0,
      given.1,
      λ w came later shown count first.
          let come = MatchBool-at_true _ _ c.if-not-branch.false (given.2 1 (c.args.more + 1) came (omega arith) first) in
          let total : c.args.more + 1 ≡ suc (more_lines c.args.event.now w) = omega (arith, count) in
          adds w (came ++ given.0) later shown total come,
    )) c.judge_gathered.ensures.end
