use Rattle.std.proofs.Common.{◌≡◌, ◌<◌, ◌++◌, true, false, [], take, sym, ◌∙◌, arith, length-append}
use Rattle.std.specs.Result.{is_err}
use Rattle.std.proofs.lemmas.Bool.{eqb-true}
use Rattle.std.proofs.lemmas.List.{length-take-le}
use Rattle.streams.proofs.MoveLemmas.{consumes_nothing, consumes_more, consumes_kept, consumes_end, room_at_end}
use Rattle.replay_core.proofs.PendingLemmas.{held_front}
use Rattle.replay_core.proofs.PushLemmas.{some_left}
use Rattle.replay_core.proofs.DoingLemmas.{gone_nothing, gone_on, gone_given, gone_sent, stopped_on, stopped_before, ended_are_done, ended_split, all_are_done, last_is_done, stopped_at_last, ended_at, err_of, ok_of, is_ok_of, is_err_of}
use Rattle.replay_core.proofs.engine.do_lines.Goals as goal

pub pulls-init : goal.pulls-init
pulls-init g c = (
  [],
  [],
  consumes_nothing _,
  omega arith,
  c.new-pending.ensures,
  tt,
  omega (arith, c.requires.more),
  gone_nothing _ _ _ _,
  c.requires.feed_fine,
  c.requires.drain_fine,
)

pub pull-requires-clause-fine : goal.pull-requires-clause-fine
pull-requires-clause-fine g c = c.pulls.invariant.8

pub returns-in_default-clause-ran : goal.returns-in_default-clause-ran
returns-in_default-clause-ran g c =
    let gone = gone_sent _ _ _ _ _ _ _ _ c.pulls.invariant.7 c.send.ensures.bytes in (
      c.pulls.invariant.0,
      gone.taken,
      consumes_kept _ _ _ _ c.pulls.invariant.2 c.in_default.ensures.bytes,
      gone.appended,
      record {
        mid = c.pulls.sink;
        tail = c.pulls.invariant.1;
        ran = ended_are_done _ _ _ _ _ _ _ gone c.pulls.invariant.5;
        split = ended_split _ _ _ _ _ _ _ gone c.pulls.invariant.5;
        left = c.see_unended.ensures c.pulls.invariant.1 c.pulls.invariant.4;
      },
      omega (arith, c.pulls.invariant.3, c.in_default.ensures.room),
    )

pub returns-in_default-clause-failed : goal.returns-in_default-clause-failed
returns-in_default-clause-failed g c = (c.in_default.ensures.failed, c.send.ensures.failed ∙ c.pulls.invariant.9)

pub see_unended-requires : goal.see_unended-requires
see_unended-requires g c = record { more = (c.pulls.invariant.1, c.pulls.invariant.4, omega (arith, c.pulls.invariant.6)) }

pub do_piece-done-requires : goal.do_piece-done-requires
do_piece-done-requires g c = record {
  more = omega (arith, c.pulls.invariant.6, c.in-Ok.ensures.room, length-take-le c.in-Ok.count c.pull.new.into c.in-Ok.ensures.count);
  fine = c.send.ensures.failed ∙ c.pulls.invariant.9;
}

pub returns-then-is_err-clause-ran : goal.returns-then-is_err-clause-ran
returns-then-is_err-clause-ran g c =
    let given = c.pulls.invariant.0 in
    let tail = c.pulls.invariant.1 in
    let part = take c.in-Ok.count c.pull.new.into in
    let failed : is_err c.do_piece-done.result ≡ true = sym c.is_err.ensures.value ∙ c.if-is_err.true in
    let gone = gone_given _ _ _ given tail part _ _ _ c.pulls.invariant.7 c.send.ensures.bytes in
    let stopped = stopped_before _ _ _ _ _ _ _ (stopped_on _ _ _ _ _ _ _ _ _ gone (err_of _ _ _ failed (c.do_piece-done.ensures.done tail c.pulls.invariant.4 c.pulls.invariant.5))) in (
      given ++ part,
      stopped.0,
      consumes_more _ _ _ _ _ c.pulls.invariant.2 c.in-Ok.ensures.bytes.0,
      stopped.1,
      stopped.2,
      omega (arith, c.pulls.invariant.3, c.in-Ok.ensures.room, length-take-le c.in-Ok.count c.pull.new.into c.in-Ok.ensures.count, length-append given part),
    )

pub pulls-smaller : goal.pulls-smaller
pulls-smaller g c = let less : g.F.Feed.room_left c.pull.new.self < g.F.Feed.room_left c.pulls.feed = omega (arith, c.in-Ok.ensures.room, c.if-count-eq0.false) in less

pub pulls-preserved : goal.pulls-preserved
pulls-preserved g c =
    let given = c.pulls.invariant.0 in
    let tail = c.pulls.invariant.1 in
    let part = take c.in-Ok.count c.pull.new.into in
    let fine : is_err c.do_piece-done.result ≡ false = sym c.is_err.ensures.value ∙ c.if-is_err.false in
    let gone = gone_given _ _ _ given tail part _ _ _ c.pulls.invariant.7 c.send.ensures.bytes in
    let done = ok_of _ _ _ fine (c.do_piece-done.ensures.done tail c.pulls.invariant.4 c.pulls.invariant.5) in
    let long = length-take-le c.in-Ok.count c.pull.new.into c.in-Ok.ensures.count in (
      given ++ part,
      done.0,
      consumes_more _ _ _ _ _ c.pulls.invariant.2 c.in-Ok.ensures.bytes.0,
      omega (arith, c.pulls.invariant.3, c.in-Ok.ensures.room, long, length-append given part),
      done.1,
      done.2,
      omega (arith, c.pulls.invariant.6, c.in-Ok.ensures.room, long, done.3),
      gone_on _ _ _ _ _ _ _ _ _ _ gone done.4,
      c.in-Ok.ensures.failed,
      c.do_piece-done.ensures.failed ∙ fine,
    )

pub answer-requires-clause-more : goal.answer-requires-clause-more
answer-requires-clause-more g c =
    let tail = c.pulls.invariant.1 in
    let some = some_left tail _ (c.is_empty.ensures tail c.pulls.invariant.4) c.if-is_empty.false in
    omega (arith, c.pulls.invariant.6, some)

pub returns-then-is_empty-clause-ran : goal.returns-then-is_empty-clause-ran
returns-then-is_empty-clause-ran g c =
    let tail = c.pulls.invariant.1 in
    let gone = gone_sent _ _ _ _ _ _ _ _ c.pulls.invariant.7 c.send.ensures.bytes in
    let none = eqb-true _ _ (sym (c.is_empty.ensures tail c.pulls.invariant.4) ∙ c.if-is_empty.true) in (
      c.pulls.invariant.0,
      gone.taken,
      consumes_end _ _ _ _ _ c.in-Ok.count c.if-count-eq0.true c.pulls.invariant.2 c.in-Ok.ensures.bytes.0,
      gone.appended,
      all_are_done _ _ _ _ _ _ _ gone none,
      room_at_end _ _ _ _ c.in-Ok.count c.if-count-eq0.true c.pulls.invariant.3 c.in-Ok.ensures.room,
    )

pub returns-then-is_empty-clause-failed : goal.returns-then-is_empty-clause-failed
returns-then-is_empty-clause-failed g c = (c.in-Ok.ensures.failed, c.send.ensures.failed ∙ c.pulls.invariant.9)

pub returns-then-is_err-2-clause-ran : goal.returns-then-is_err-2-clause-ran
returns-then-is_err-2-clause-ran g c =
    let tail = c.pulls.invariant.1 in
    let holds = c.pulls.invariant.4 in
    let gone = gone_sent _ _ _ _ _ _ _ _ c.pulls.invariant.7 c.send.ensures.bytes in
    let some = some_left tail _ (c.is_empty.ensures tail holds) c.if-is_empty.false in
    let failed = is_err_of c.answer.result (sym c.is_err-2.ensures.value ∙ c.if-is_err-2.true) in
    let done = rw failed.1 at (c.answer.ensures.done tail (c.reading.ensures.reading tail holds) (held_front _ _ _ holds c.as_slice-front.ensures.value)) in
    let stopped = stopped_at_last _ _ _ _ _ _ tail _ _ _ failed.0 gone c.pulls.invariant.5 some done (ended_at _ c.in-Ok.count c.in-Ok.ensures.ended c.if-count-eq0.true) in (
      c.pulls.invariant.0,
      stopped.0,
      consumes_end _ _ _ _ _ c.in-Ok.count c.if-count-eq0.true c.pulls.invariant.2 c.in-Ok.ensures.bytes.0,
      stopped.1,
      stopped.2,
      room_at_end _ _ _ _ c.in-Ok.count c.if-count-eq0.true c.pulls.invariant.3 c.in-Ok.ensures.room,
    )

pub returns-clause-ran : goal.returns-clause-ran
returns-clause-ran g c =
    let tail = c.pulls.invariant.1 in
    let holds = c.pulls.invariant.4 in
    let gone = gone_sent _ _ _ _ _ _ _ _ c.pulls.invariant.7 c.send.ensures.bytes in
    let some = some_left tail _ (c.is_empty.ensures tail holds) c.if-is_empty.false in
    let fine = is_ok_of c.answer.result (sym c.is_err-2.ensures.value ∙ c.if-is_err-2.false) in
    let done = rw fine at (c.answer.ensures.done tail (c.reading.ensures.reading tail holds) (held_front _ _ _ holds c.as_slice-front.ensures.value)) in
    let last = last_is_done _ _ _ _ _ tail _ _ _ gone c.pulls.invariant.5 some done in (
      c.pulls.invariant.0,
      last.0,
      consumes_end _ _ _ _ _ c.in-Ok.count c.if-count-eq0.true c.pulls.invariant.2 c.in-Ok.ensures.bytes.0,
      last.1,
      last.2,
      room_at_end _ _ _ _ c.in-Ok.count c.if-count-eq0.true c.pulls.invariant.3 c.in-Ok.ensures.room,
    )
