use Rattle.own_trace.proofs.OneMoreLine.{are_kept, kept_short}
use Rattle.own_trace.proofs.keeping.keep.Goals as goal

pub returns-in-Ok-clause-kept : goal.returns-in-Ok-clause-kept
returns-in-Ok-clause-kept g c =
    let ran = rw c.in-Ok.is at c.do_lines.ensures.ran in
    let all = are_kept _ _ _ _ _ ran.4 in
    (ran.0, ran.1, ran.2, ran.3, all.1, ran.5)

pub returns-in-Err-Feed-clause-kept : goal.returns-in-Err-Feed-clause-kept
returns-in-Err-Feed-clause-kept g c =
    let ran = rw c.in-Err-Feed.field-0-is at (rw c.in-Err-Feed.is at c.do_lines.ensures.ran) in
    let all = are_kept _ _ _ _ _ ran.4.ran in
    (ran.0, ran.1, ran.2, ran.3, all.1, ran.5)

pub returns-in-Err-Drain-clause-kept : goal.returns-in-Err-Drain-clause-kept
returns-in-Err-Drain-clause-kept g c =
    let ran = rw c.in-Err-Drain.field-0-is at (rw c.in-Err-Drain.is at c.do_lines.ensures.ran) in
    (ran.0, ran.1, ran.2, ran.3, (ran.4.0, ran.4.1, ran.4.2, kept_short _ _ ran.4.0 ran.4.1 ran.1 _ ran.4.3), ran.5)
