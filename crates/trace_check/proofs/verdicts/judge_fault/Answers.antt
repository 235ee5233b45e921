use Rattle.std.proofs.Common.{◌≡◌, ◌++◌, List, [], ℕ, true, false, refl, ap, sym, ◌∙◌}
use Rattle.std.specs.Str.{bytes_eq}
use Rattle.std.proofs.lemmas.Result.{IfOk-from_err}
use Rattle.std.proofs.lemmas.Bool.{MatchBool-at_true, MatchBool-at_false}
use Rattle.trace_check.specs.Finding.{reports_fault}
use Rattle.trace_check.proofs.ReadingLemmas.{none_come, none_follows, stand_first}
use Rattle.trace_check.proofs.verdicts.judge_fault.Goals as goal

pub returns-in_err-gather-clause-judged : goal.returns-in_err-gather-clause-judged
returns-in_err-gather-clause-judged g c =
    let come = c.in_err-gather.ensures.come in (come.0, come.1, λ w kept shown none. IfOk-from_err _ _ c.from_residual.ensures.0, come.3)

pub returns-then-not-branch-clause-judged : goal.returns-then-not-branch-clause-judged
returns-then-not-branch-clause-judged g c =
    let come = c.in_ok-gather.ensures.come in (
      come.0,
      come.1,
      λ w kept shown none. (
        λ more may.
            let (ended, gone) = MatchBool-at_false _ _ c.if-not-branch.true (come.2 0 1 [] refl (none_come none)) in
            rw (none_follows 1 come.0 more c.gather.new.replies ended gone may) refl,
        shown,
      ),
      come.3,
    )

pub returns-then-is_text-clause-judged : goal.returns-then-is_text-clause-judged
returns-then-is_text-clause-judged g c =
    let given = c.in_ok-gather.ensures.come in (
      given.0,
      given.1,
      λ w kept shown none.
          let come = MatchBool-at_true _ _ c.if-not-branch.false (given.2 0 1 [] refl (none_come none)) in
          let reply_text : (more : List ℕ) → reports_fault c.args.fault (given.0 ++ more) ≡ true = λ more.
          rw (stand_first come more) (ap (bytes_eq given.0) (sym c.write_answer_to-len.ensures.text) ∙ sym (c.is_text.ensures given.0 come.gathers) ∙ c.if-is_text.true) in
          (refl, come.are, (w, shown, λ more. rw (reply_text more) refl)),
      given.3,
    )

pub returns-else-is_text-clause-judged : goal.returns-else-is_text-clause-judged
returns-else-is_text-clause-judged g c =
    let given = c.in_ok-gather.ensures.come in (
      given.0,
      given.1,
      λ w kept shown none. (
        λ more may.
            let come = MatchBool-at_true _ _ c.if-not-branch.false (given.2 0 1 [] refl (none_come none)) in
            let reply_text : reports_fault c.args.fault (given.0 ++ more) ≡ false =
            rw (stand_first come more) (ap (bytes_eq given.0) (sym c.write_answer_to-len.ensures.text) ∙ sym (c.is_text.ensures given.0 come.gathers) ∙ c.if-is_text.false) in
            rw reply_text refl,
        shown,
      ),
      given.3,
    )
