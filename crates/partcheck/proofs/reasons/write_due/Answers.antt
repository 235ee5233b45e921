use Rattle.partcheck.specs.Reasons.{due_text}
use Rattle.partcheck.proofs.JoinedTexts.{only_text}
use Rattle.partcheck.proofs.reasons.write_due.Goals as goal

pub returns-in-Some : goal.returns-in-Some
returns-in-Some g c =
    only_text (g.W.Write.contents c.args.out.now) (g.W.Write.contents c.write.new.self) c.write.result _ (due_text c.args.due) c.write.ensures.bytes
    (simp (c.in-Some.is, c.number-number.ensures, c.name-name.ensures.value))
