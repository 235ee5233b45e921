use Rattle.std.proofs.Common.{length, refl, sym, ap, ◌∙◌, arith, length-append, length-drop}
use Rattle.std.proofs.lemmas.Bool.{eqb-true}
use Rattle.std.proofs.lemmas.List.{take_rest, nil_from_length}
use Rattle.replay_core.proofs.PushLemmas.{nothing_pushed, pushed_count, pushed_to, pushed_all, some_left}
use Rattle.replay_core.proofs.replies.push_all.Goals as goal

pub loop-rest-init : goal.loop-rest-init
loop-rest-init g c = (nothing_pushed _ _ _, c.requires.fine)

pub returns-in_err-count : goal.returns-in_err-count
returns-in_err-count g c =
    pushed_to _ _ _ _ _ c.loop-rest.rest.now _ _ _ c.from_residual.ensures.0 c.loop-rest.invariant.0 c.in_err-count.ensures.bytes
    (some_left _ _ c.is_empty.ensures c.loop-rest-test.true) c.in_err-count.ensures.failed

pub overflow_add-written : goal.overflow_add-written
overflow_add-written g c =
    let had = c.loop-rest.invariant.0 in
    omega (arith, had.counted, ap length had.split, length-append had.taken c.loop-rest.rest.now, c.in_ok-count.ensures.count, c.requires.counted)

pub loop-rest-smaller : goal.loop-rest-smaller
loop-rest-smaller g c =
    rw (take_rest c.loop-rest.rest.now c.in_ok-count.count) (omega (arith, length-drop c.in_ok-count.count c.loop-rest.rest.now, c.in_ok-count.ensures.count))

pub loop-rest-preserved : goal.loop-rest-preserved
loop-rest-preserved g c =
    rw (take_rest c.loop-rest.rest.now c.in_ok-count.count) (
      pushed_count _ _ _ _ c.loop-rest.rest.now c.in_ok-count.count _ _ _ c.loop-rest.invariant.0 c.in_ok-count.ensures.count.1 c.in_ok-count.ensures.bytes refl,
      c.in_ok-count.ensures.failed,
    )

pub returns : goal.returns
returns g c =
    pushed_all _ _ _ _ _ _ _ c.loop-rest.invariant.0 (nil_from_length _ (eqb-true _ _ (sym c.is_empty.ensures ∙ c.loop-rest-test.false))) c.loop-rest.invariant.1
