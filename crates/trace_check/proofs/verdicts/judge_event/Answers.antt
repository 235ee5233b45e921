use Rattle.std.proofs.Common.{◌≡◌, ◌++◌, [], suc, refl, ap, sym, ◌∙◌, arith}
use Rattle.std.proofs.lemmas.Bool.{MatchBool-at_true, MatchBool-at_false}
use Rattle.std.proofs.lemmas.Result.{IfOk-from_err}
use Rattle.trace_check.specs.Finding.{more_lines, refusal_read}
use Rattle.trace_check.proofs.CheckLemmas.{no_reply_judged, none_there}
use Rattle.trace_check.proofs.Ending.{ended_so, ended_where}
use Rattle.trace_check.proofs.ReadingLemmas.{added_more, gives_more, none_come, none_follows}
use Rattle.trace_check.proofs.verdicts.judge_event.Goals as goal

pub returns-in_err-gather-clause-judged : goal.returns-in_err-gather-clause-judged
returns-in_err-gather-clause-judged g c =
    let come = c.in_err-gather.ensures.come in (come.0, come.1, λ w shown none. IfOk-from_err _ _ c.from_residual.ensures.0, come.3)

pub returns-then-not-branch-clause-judged : goal.returns-then-not-branch-clause-judged
returns-then-not-branch-clause-judged g c =
    let come = c.in_ok-gather.ensures.come in (
      come.0,
      come.1,
      λ w shown none. (
        λ more may.
            let (ended, gone) = MatchBool-at_false _ _ c.if-not-branch.true (come.2 0 1 [] refl (none_come none)) in
            no_reply_judged c.args.event.now (come.0 ++ more) w _
            (none_there c.gather.new.replies 1 come.0 c.args.event.now w ended gone (omega arith) more may)
            (rw (none_follows 1 come.0 more c.gather.new.replies ended gone may) refl),
        shown,
      ),
      come.3,
    )

pub returns-then-more-eq0-clause-judged : goal.returns-then-more-eq0-clause-judged
returns-then-more-eq0-clause-judged g c =
    let given = c.in_ok-gather.ensures.come in (
      given.0,
      given.1,
      λ w shown none.
          let come = MatchBool-at_true _ _ c.if-not-branch.false (given.2 0 1 [] refl (none_come none)) in
          let few : more_lines c.args.event.now w ≡ 0 = sym (c.more_lines-more.ensures.lines w shown) ∙ c.if-more-eq0.true in
          c.judge_gathered.ensures.judged w given.0 _ shown (ap suc (sym few)) come (λ more gone. sym (ap refusal_read gone)),
      given.3,
    )

pub returns-then-more-eq0-clause-end : goal.returns-then-more-eq0-clause-end
returns-then-more-eq0-clause-end g c =
    let given = c.in_ok-gather.ensures.come in
    ended_where c.judge_gathered.result _ _ _ c.in_ok-gather.ensures.end.1 (λ adds. (
      given.0,
      given.1,
      λ w more shown none.
          let come = MatchBool-at_true _ _ c.if-not-branch.false (given.2 0 1 [] refl (none_come none)) in
          let few : more_lines c.args.event.now w ≡ 0 = sym (c.more_lines-more.ensures.lines w shown) ∙ c.if-more-eq0.true in
          adds w given.0 more shown (ap suc (sym few)) come,
    )) c.judge_gathered.ensures.end

pub returns-else-more-eq0-clause-judged : goal.returns-else-more-eq0-clause-judged
returns-else-more-eq0-clause-judged g c =
    let given = c.in_ok-gather.ensures.come in
    let later = c.judge_lines.ensures.judged in (
      given.0 ++ later.0,
      gives_more given.1 later.1,
      λ w shown none.
          later.2 w given.0 shown (sym (c.more_lines-more.ensures.lines w shown))
          (MatchBool-at_true _ _ c.if-not-branch.false (given.2 0 1 [] refl (none_come none))),
      added_more c.args.text.now c.gather.new.text c.judge_lines.new.text given.0 later.0 given.3 later.3,
    )

pub returns-else-more-eq0-clause-end : goal.returns-else-more-eq0-clause-end
returns-else-more-eq0-clause-end g c =
    let given = c.in_ok-gather.ensures.come in
    ended_so c.judge_lines.result _ _ _ _ (λ later. (
      given.0 ++ later.0,
      gives_more given.1 later.1,
      λ w more shown none.
          later.2 w given.0 more shown (sym (c.more_lines-more.ensures.lines w shown))
          (MatchBool-at_true _ _ c.if-not-branch.false (given.2 0 1 [] refl (none_come none))),
    )) c.judge_lines.ensures.end
