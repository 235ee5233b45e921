use Rattle.partcheck.specs.Reasons.{left_text}
use Rattle.partcheck.proofs.JoinedTexts.{only_text}
use Rattle.partcheck.proofs.reasons.write_left.Goals as goal

pub returns-in-Block : goal.returns-in-Block
returns-in-Block g c =
    only_text (g.W.Write.contents c.args.out.now) (g.W.Write.contents c.write.new.self) c.write.result _ (left_text c.args.vacancy.now) c.write.ensures.bytes
    (simp (c.in-Block.is, c.order-order.ensures.value, c.first-first.ensures))

pub returns-in-Slab : goal.returns-in-Slab
returns-in-Slab g c =
    only_text (g.W.Write.contents c.args.out.now) (g.W.Write.contents c.write-in-Slab.new.self) c.write-in-Slab.result _ (left_text c.args.vacancy.now) c.write-in-Slab.ensures.bytes
    (simp c.in-Slab.is)
