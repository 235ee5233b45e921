use Rattle.std.proofs.Common.{sym, ◌∙◌}
use Rattle.std.proofs.lemmas.Bool.{eqb-true}
use Rattle.std.proofs.lemmas.List.{nil_from_length}
use Rattle.replay_core.proofs.DoingLemmas.{gone_nothing}
use Rattle.replay_core.proofs.engine.begin_piece.Goals as goal

pub returns-then-is_empty-clause-done : goal.returns-then-is_empty-clause-done
returns-then-is_empty-clause-done g c tail holds =
    let none = nil_from_length tail (eqb-true _ _ (sym (c.is_empty.ensures tail holds) ∙ c.if-is_empty.true)) in
    rw none c.do_quick_lines.ensures.done

pub returns-else-is_empty-clause-done : goal.returns-else-is_empty-clause-done
returns-else-is_empty-clause-done g c tail holds = gone_nothing _ _ _ _
