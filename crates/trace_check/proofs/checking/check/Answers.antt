use Rattle.std.proofs.Common.{ℕ, ◌+◌, ◌<◌, ◌≤◌, [], ◌∷◌, ◌++◌, Option, Result, IfOk, IfSome, inl, refl, ap, sym, subst, add-zero, append-nil, ◌∙◌, arith}
use Rattle.std.proofs.lemmas.Result.{IfOk-from_err}
use Rattle.words_core.specs.declared.event.Event.{Event}
use Rattle.words_core.specs.declared.event.LineFault.{LineFault}
use Rattle.promise_core.specs.declared.promise.Promise.{Promise}
use Rattle.trace_check.specs.declared.finding.Breach.{Breach}
use Rattle.trace_check.specs.Checking.{ComesToAdd, IsKnownAfter, IsLineVerdict}
use Rattle.trace_check.specs.Finding.{finding}
use Rattle.trace_check.specs.Reading.{IsNextReading, readings_of}
use Rattle.trace_check.proofs.CheckLemmas.{behind_parts, breach_at, breaks, ends_broken, ends_kept, goes_on, has_reply, known_later, left_after}
use Rattle.trace_check.proofs.Ending.{adds_later, stopped_reading, stopped_telling}
use Rattle.trace_check.proofs.ReadingLemmas.{gives_more, gives_nothing, lines_more, none_behind, some_behind}
use Rattle.trace_check.proofs.checking.check.Goals as goal

pub lines-init : goal.lines-init
lines-init g c = record {
  given = ([], [], gives_nothing _, gives_nothing _, λ w shows. (w, shows, λ more later may. (refl, λ adds. adds, λ end known. known), refl));
  reason = refl;
  trace_fine = c.requires.trace_fine;
  replies_fine = c.requires.replies_fine;
  lines = omega arith;
  replies = omega arith;
}

pub lines-preserved : goal.lines-preserved
lines-preserved g c =
    let less = subst (λ (read : Option (Result (Option Event) LineFault)). IfSome read (λ _. c.next_reading.new.trace.room < c.lines.trace.room)) c.in-Some.is
    c.in_ok-reading.ensures.less in
    let taken = subst (λ (verdict : Result ℕ Promise). IfOk verdict (λ lines. c.judge_line.new.replies.room + lines ≤ c.lines.replies.room)) c.in-Ok.is
    c.in_ok-lines.ensures.room in
    let here = c.lines.invariant.given in
    let part = c.in_ok-reading.ensures.reading in
    let answer = c.in_ok-lines.ensures.judged in
    let read = subst (λ (read : Option (Result (Option Event) LineFault)). IsNextReading read part.0 c.next_reading.new.trace) c.in-Some.is part.2 in
    record {
      given = (
        here.0 ++ part.0,
        here.1 ++ answer.0,
        gives_more here.2 part.1,
        gives_more here.3 answer.1,
        λ w shows.
            let (now, showing, behind, whole) = here.4 w shows in
            let (count, lines, (after, shown, is)) = subst
            (λ (verdict : Result ℕ Promise). IsLineVerdict verdict c.in-Some.reading answer.0 now c.judge_line.new.machine c.judge_line.new.replies)
            c.in-Ok.is (answer.2 now showing) in (
              after,
              shown,
              λ more later may.
                  let (found, adds, knows) = behind_parts w here.0 here.1 part.0 answer.0 behind part.1 more later may in
                  let verdict = is later in
                  let left = left_after c.in-Ok.lines answer.0 later lines in (
                    found ∙ ap (λ readings. finding c.lines.line c.lines.reply readings (answer.0 ++ later) now) (read more may)
                        ∙ goes_on c.lines.line c.lines.reply c.in-Ok.lines c.in-Some.reading (readings_of more) (answer.0 ++ later) now after verdict count
                        ∙ ap (λ bytes. finding (c.lines.line + 1) (c.lines.reply + c.in-Ok.lines) (readings_of more) bytes after) left,
                    λ adds_more. adds (subst (λ readings. ComesToAdd readings (answer.0 ++ later) now) (sym (read more may))
                        (adds_later c.in-Ok.lines c.in-Some.reading (readings_of more) (answer.0 ++ later) now after verdict count
                        (subst (λ bytes. ComesToAdd (readings_of more) bytes after) (sym left) adds_more))),
                    λ end known. knows end (subst (λ readings. IsKnownAfter readings (answer.0 ++ later) now end) (sym (read more may))
                        (known_later c.in-Ok.lines c.in-Some.reading (readings_of more) (answer.0 ++ later) now after end verdict count
                        (subst (λ bytes. IsKnownAfter (readings_of more) bytes after end) (sym left) known))),
                  ),
              lines_more c.lines.reply c.in-Ok.lines here.1 answer.0 (answer.0, []) whole lines,
            ),
      );
      reason = c.lines.invariant.reason;
      trace_fine = c.in_ok-reading.ensures.end.0;
      replies_fine = c.in_ok-lines.ensures.end.1;
      lines = omega (arith, c.lines.invariant.lines, less);
      replies = omega (arith, c.lines.invariant.replies, taken);
    }

pub returns-in_err-reading-clause-found : goal.returns-in_err-reading-clause-found
returns-in_err-reading-clause-found g c =
    let here = c.lines.invariant.given in
    let part = c.in_err-reading.ensures.reading in
    (here.0 ++ part.0, here.1, gives_more here.2 part.1, here.3, λ w shows. IfOk-from_err _ _ c.from_residual.ensures.0, λ w shows. IfOk-from_err _ _ c.from_residual.ensures.0)

pub returns-in_err-lines-clause-found : goal.returns-in_err-lines-clause-found
returns-in_err-lines-clause-found g c =
    let here = c.lines.invariant.given in
    let part = c.in_ok-reading.ensures.reading in
    let answer = c.in_err-lines.ensures.judged in (
      here.0 ++ part.0,
      here.1 ++ answer.0,
      gives_more here.2 part.1,
      gives_more here.3 answer.1,
      λ w shows.
          IfOk-from_err _ _ c.from_residual-in_err-lines.ensures.0,
      λ w shows.
          IfOk-from_err _ _ c.from_residual-in_err-lines.ensures.0,
    )

pub returns-in_err-has_ended-clause-found : goal.returns-in_err-has_ended-clause-found
returns-in_err-has_ended-clause-found g c =
    let here = c.lines.invariant.given in
    let part = c.in_ok-reading.ensures.reading in
    let answer = c.in_err-has_ended.ensures.none in (
      here.0 ++ part.0,
      here.1 ++ answer.0,
      gives_more here.2 part.1,
      gives_more here.3 answer.1,
      λ w shows.
          IfOk-from_err _ _ c.from_residual-in_err-has_ended.ensures.0,
      λ w shows.
          IfOk-from_err _ _ c.from_residual-in_err-has_ended.ensures.0,
    )

pub returns-in-Err-clause-found : goal.returns-in-Err-clause-found
returns-in-Err-clause-found g c =
    let here = c.lines.invariant.given in
    let part = c.in_ok-reading.ensures.reading in
    let answer = c.in_ok-lines.ensures.judged in
    let read = subst (λ (read : Option (Result (Option Event) LineFault)). IsNextReading read part.0 c.next_reading.new.trace) c.in-Some.is part.2 in (
      here.0 ++ part.0,
      here.1 ++ answer.0,
      gives_more here.2 part.1,
      gives_more here.3 answer.1,
      λ w shows.
          let (now, showing, behind, whole) = here.4 w shows in
          let judged = subst
          (λ (verdict : Result ℕ Promise). IsLineVerdict verdict c.in-Some.reading answer.0 now c.judge_line.new.machine c.judge_line.new.replies)
          c.in-Err.is (answer.2 now showing) in
          λ more later may may_later. c.broken.ensures
          ∙ sym ((behind_parts w here.0 here.1 part.0 answer.0 behind part.1 more later may).0
          ∙ ap (λ readings. finding c.lines.line c.lines.reply readings (answer.0 ++ later) now) (read more may)
          ∙ breaks c.lines.line c.lines.reply c.in-Err.promise c.in-Some.reading (readings_of more) (answer.0 ++ later) now (judged.0 later may_later)),
      λ w shows.
          let (now, showing, behind, whole) = here.4 w shows in
          let judged = subst
          (λ (verdict : Result ℕ Promise). IsLineVerdict verdict c.in-Some.reading answer.0 now c.judge_line.new.machine c.judge_line.new.replies)
          c.in-Err.is (answer.2 now showing) in
          let breach : Breach = record { line = c.lines.line + 1; reply = c.lines.reply + 1; promise = c.in-Err.promise } in
          rw c.broken.ensures (
            part.0,
            answer.0,
            now,
            breach_at c.lines.trace w here.0 here.1 part.0 answer.0 breach (c.in-Some.reading ∷ []) behind whole
                (ap readings_of (sym (append-nil part.0)) ∙ read [] (λ ended. refl)) refl refl
                (has_reply c.in-Some.reading (answer.0 ++ []) now c.in-Err.promise (judged.0 [] (λ ended. refl))),
            record { line = part.3; reply = answer.3 },
            judged.1,
          ),
    )

pub returns-then-branch-clause-found : goal.returns-then-branch-clause-found
returns-then-branch-clause-found g c =
    let here = c.lines.invariant.given in
    let part = c.in_ok-reading.ensures.reading in
    let answer = c.in_ok-has_ended.ensures.none in
    let (none, ended) = subst (λ (read : Option (Result (Option Event) LineFault)). IsNextReading read part.0 c.next_reading.new.trace) c.in_default.is part.2 in (
      here.0 ++ part.0,
      here.1 ++ answer.0,
      gives_more here.2 part.1,
      gives_more here.3 answer.1,
      λ w shows.
          let (now, showing, behind, whole) = here.4 w shows in
          λ more later may may_later. sym ((behind_parts w here.0 here.1 part.0 answer.0 behind part.1 more later may).0
          ∙ ends_kept c.lines.line c.lines.reply (part.0 ++ more) (answer.0 ++ later) now (ap (λ xs. xs ++ more) none ∙ may ended)
          (none_behind answer.0 later (sym answer.2.0 ∙ c.if-branch.true) (may_later (answer.2.1 c.if-branch.true)))),
      λ w shows. tt,
    )

pub returns-then-branch-clause-kept : goal.returns-then-branch-clause-kept
returns-then-branch-clause-kept g c =
    let part = c.in_ok-reading.ensures.reading in
    let read = subst (λ (read : Option (Result (Option Event) LineFault)). IsNextReading read part.0 c.next_reading.new.trace) c.in_default.is part.2 in
    (read.1, c.in_ok-has_ended.ensures.none.2.1 c.if-branch.true)

pub returns-else-branch-clause-found : goal.returns-else-branch-clause-found
returns-else-branch-clause-found g c =
    let here = c.lines.invariant.given in
    let part = c.in_ok-reading.ensures.reading in
    let answer = c.in_ok-has_ended.ensures.none in
    let (none, ended) = subst (λ (read : Option (Result (Option Event) LineFault)). IsNextReading read part.0 c.next_reading.new.trace) c.in_default.is part.2 in (
      here.0 ++ part.0,
      here.1 ++ answer.0,
      gives_more here.2 part.1,
      gives_more here.3 answer.1,
      λ w shows.
          let (now, showing, behind, whole) = here.4 w shows in
          λ more later may may_later. c.broken-else-branch.ensures ∙ sym ((behind_parts w here.0 here.1 part.0 answer.0 behind part.1 more later may).0
          ∙ ends_broken c.lines.line c.lines.reply (part.0 ++ more) (answer.0 ++ later) now (ap (λ xs. xs ++ more) none ∙ may ended)
          (some_behind answer.0 later (sym answer.2.0 ∙ c.if-branch.false))),
      λ w shows.
          let (now, showing, behind, whole) = here.4 w shows in
          let breach : Breach = record { line = c.lines.line; reply = c.lines.reply + 1; promise = Promise.Form } in
          rw c.broken-else-branch.ensures (
            part.0,
            answer.0,
            now,
            breach_at c.lines.trace w here.0 here.1 part.0 answer.0 breach [] behind whole (ap readings_of none) (sym (add-zero c.lines.line)) refl tt,
            record { line = part.3; reply = answer.3 },
            showing,
          ),
    )

pub returns-in-Err-clause-kept : goal.returns-in-Err-clause-kept
returns-in-Err-clause-kept g c = rw c.broken.ensures tt

pub returns-else-branch-clause-kept : goal.returns-else-branch-clause-kept
returns-else-branch-clause-kept g c = rw c.broken-else-branch.ensures tt

pub returns-in_err-reading-clause-end : goal.returns-in_err-reading-clause-end
returns-in_err-reading-clause-end g c =
    stopped_reading c.in_err-reading.field-0.0 _ _ _ _ c.from_residual.ensures.1 c.lines.invariant.replies_fine c.in_err-reading.ensures.end

pub returns-in_err-lines-clause-end : goal.returns-in_err-lines-clause-end
returns-in_err-lines-clause-end g c =
    let here = c.lines.invariant.given in
    let part = c.in_ok-reading.ensures.reading in
    let read = subst (λ (read : Option (Result (Option Event) LineFault)). IsNextReading read part.0 c.next_reading.new.trace) c.in-Some.is part.2 in
    stopped_telling c.in_err-lines.field-0.0 _ _ _ _ _ c.from_residual-in_err-lines.ensures.1 c.in_ok-reading.ensures.end.0 (λ answer. (
      here.0 ++ part.0,
      here.1 ++ answer.0,
      gives_more here.2 part.1,
      gives_more here.3 answer.1,
      λ w shows.
          let (now, showing, behind, whole) = here.4 w shows in
          λ more later may may_later. (behind_parts w here.0 here.1 part.0 answer.0 behind part.1 more later may).1
          (subst (λ readings. ComesToAdd readings (answer.0 ++ later) now) (sym (read more may)) (inl (answer.2 now later showing))),
    )) c.in_err-lines.ensures.end

pub returns-in_err-has_ended-clause-end : goal.returns-in_err-has_ended-clause-end
returns-in_err-has_ended-clause-end g c =
    stopped_telling c.in_err-has_ended.field-0.0 _ _ _ ⊥ _ c.from_residual-in_err-has_ended.ensures.1 c.in_ok-reading.ensures.end.0 (λ none. absurd none)
    c.in_err-has_ended.ensures.end
