use Rattle.std.proofs.Common.{◌≡◌, ◌++◌, [], refl, sym, ◌∙◌}
use Rattle.std.proofs.lemmas.Bool.{eqb-true}
use Rattle.std.proofs.lemmas.List.{nil_from_length}
use Rattle.replay_core.proofs.PendingLemmas.{held_front}
use Rattle.replay_core.proofs.engine.end_line.Goals as goal

pub returns-then-is_empty-clause-done : goal.returns-then-is_empty-clause-done
returns-then-is_empty-clause-done g c tail holds =
    let none : tail ≡ [] = nil_from_length tail (eqb-true _ _ (sym (c.is_empty.ensures tail holds) ∙ c.if-is_empty.true)) in
    c.answer.ensures.done (tail ++ c.args.bytes.now) (c.end_with.ensures.reading tail holds) (record { same = rw none refl; whole = λ few. rw none refl })

pub returns-clause-done : goal.returns-clause-done
returns-clause-done g c tail holds =
    let holds = c.add.ensures tail holds in
    c.answer-done.ensures.done (tail ++ c.args.bytes.now) (c.reading.ensures.reading _ holds)
    (held_front _ _ _ holds c.as_slice-front.ensures.value)
