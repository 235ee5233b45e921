use Rattle.std.proofs.Common.{[], refl}
use Rattle.trace_check.proofs.Ending.{ended_so}
use Rattle.trace_check.proofs.ReadingLemmas.{gives_nothing}
use Rattle.trace_check.proofs.verdicts.judge_line.Goals as goal

pub returns-in-None-clause-judged : goal.returns-in-None-clause-judged
returns-in-None-clause-judged g c = ([], gives_nothing _, λ w shown. rw (c.in-Ok.is, c.in-None.is) (refl, refl, (w, shown, λ more. refl)), c.clear.ensures)

pub returns-in-Some-clause-judged : goal.returns-in-Some-clause-judged
returns-in-Some-clause-judged g c =
    let given = c.judge_event.ensures.judged in
    (given.0, given.1, λ w shown. rw (c.in-Ok.is, c.in-Some.is) (given.2 w shown c.clear.ensures), given.3 [] c.clear.ensures)

pub returns-in-Some-clause-end : goal.returns-in-Some-clause-end
returns-in-Some-clause-end g c = rw (c.in-Ok.is, c.in-Some.is) (ended_so c.judge_event.result _ _ _ _
    (λ given. (given.0, given.1, λ w more shown. given.2 w more shown c.clear.ensures)) c.judge_event.ensures.end)

pub returns-in-Err-clause-judged : goal.returns-in-Err-clause-judged
returns-in-Err-clause-judged g c =
    let given = c.judge_fault.ensures.judged in
    (given.0, given.1, λ w shown. rw c.in-Err.is (given.2 w _ shown c.clear.ensures), given.3 [] c.clear.ensures)
