use Rattle.std.proofs.Common.{suc, Bool, Ok, [], ◌∷◌, ◌++◌, length, length-append, rules, ap, sym, subst, append-nil, append_assoc, ◌∙◌, arith}
use Rattle.streams.specs.declared.feed.Stopped.{Stopped}
use Rattle.trace_check.specs.Checking.{HasGathered}
use Rattle.trace_check.specs.Finding.{lines_at}
use Rattle.trace_check.specs.Reading.{IsPartAtOk}
use Rattle.trace_check.proofs.ReadingLemmas.{added_more, added_nothing, come_more, gives_more, gives_nothing, none_more}
use Rattle.trace_check.proofs.gathering.gather.Goals as goal

pub lines-init : goal.lines-init
lines-init g c = record {
  come = (
    [],
    gives_nothing _,
    λ k n came sum before. (k, sum, subst (λ xs. HasGathered k xs c.args.text.now) (sym (append-nil came)) before),
    added_nothing c.args.text.now,
  );
  fine = search rules;
  room = omega arith;
}

pub lines-preserved : goal.lines-preserved
lines-preserved g c =
    let passed = c.lines.invariant.come in
    let given = c.in-Ok-true.ensures.taken in
    let (line, one, is) = subst (λ (b : Bool). IsPartAtOk {E = Stopped} (Ok b) given.0 c.next.new.self) c.in-Ok-true.field-0-test given.2 in
    record {
      come = (
        passed.0 ++ given.0,
        gives_more passed.1 given.1,
        λ k n came sum before.
            let here = passed.2 k n came sum before in (
              suc here.0,
              omega (arith, here.1, c.lines-test.true),
              subst (λ xs. HasGathered (suc here.0) xs c.next.new.into) (append_assoc came passed.0 given.0) (come_more given.0 line here.2 one is given.3),
            ),
        added_more c.args.text.now c.lines.text c.next.new.into passed.0 given.0 passed.3 given.3,
      );
      fine = search rules;
      room = omega (arith, c.lines.invariant.room, given.1.count, c.lines-test.true, ap length is, length-append line (10 ∷ []));
    }

pub returns-in-Ok-false-clause-come : goal.returns-in-Ok-false-clause-come
returns-in-Ok-false-clause-come g c =
    let passed = c.lines.invariant.come in
    let given = c.in-Ok-false.ensures.taken in
    let (one, ends) = subst (λ (b : Bool). IsPartAtOk {E = Stopped} (Ok b) given.0 c.next.new.self) c.in-Ok-false.field-0-test given.2 in (
      passed.0 ++ given.0,
      gives_more passed.1 given.1,
      λ k n came sum before.
          let here = passed.2 k n came sum before in
          (ends, ap (lines_at n) (sym (append_assoc came passed.0 given.0)) ∙ none_more n given.0 here.2 one (omega (arith, here.1, c.lines-test.true))),
      added_more c.args.text.now c.lines.text c.next.new.into passed.0 given.0 passed.3 given.3,
    )

pub returns-in-Err-clause-come : goal.returns-in-Err-clause-come
returns-in-Err-clause-come g c =
    let passed = c.lines.invariant.come in
    let given = c.in-Err.ensures.taken in (
      passed.0 ++ given.0,
      gives_more passed.1 given.1,
      λ k n came sum before. tt,
      added_more c.args.text.now c.lines.text c.next.new.into passed.0 given.0 passed.3 given.3,
    )

pub returns-clause-come : goal.returns-clause-come
returns-clause-come g c =
    let passed = c.lines.invariant.come in (
      passed.0,
      passed.1,
      λ k n came sum before.
          let here = passed.2 k n came sum before in
          subst (λ m. HasGathered m (came ++ passed.0) c.lines.text) (omega (arith, here.1, c.lines-test.false)) here.2,
      passed.3,
    )
