use Rattle.std.proofs.Common.{◌≡◌, ◌∙◌, ap, arith, ◌++◌, [], ◌∷◌}
use Rattle.std.proofs.lemmas.Bool.Decides.{nat_tests}
use Rattle.run_notes.proofs.NoteLemmas.{fault_added}
use Rattle.run_notes.proofs.notes.RunNotesNotes.faulty.Goals as goal

pub returns-then-not-is_full : goal.returns-then-not-is_full
returns-then-not-is_full c =
    fault_added c.args.self.now c.args.number c.args.fault c.args.begin.now _
    (grind (arith, nat_tests, c.is_full.ensures.value, c.is_full.ensures.fits, c.if-not-is_full.true))
    (c.push.ensures.items ∙ ap (λ line. c.args.self.now.first.items ++ line ∷ []) c.new.ensures)
