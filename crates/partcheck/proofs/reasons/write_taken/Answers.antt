use Rattle.partcheck.specs.Reasons.{taken_text}
use Rattle.partcheck.proofs.JoinedTexts.{only_text}
use Rattle.partcheck.proofs.reasons.write_taken.Goals as goal

pub returns : goal.returns
returns g c =
    only_text (g.W.Write.contents c.args.out.now) (g.W.Write.contents c.write.new.self) c.write.result _ (taken_text c.args.taken.now) c.write.ensures.bytes
    (simp (c.order-order.ensures.value, c.first-first.ensures))
