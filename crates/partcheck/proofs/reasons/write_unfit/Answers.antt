use Rattle.partcheck.specs.Reasons.{unfit_text}
use Rattle.partcheck.proofs.JoinedTexts.{only_text}
use Rattle.partcheck.proofs.reasons.write_unfit.Goals as goal

pub returns-in-Misaligned : goal.returns-in-Misaligned
returns-in-Misaligned g c =
    only_text (g.W.Write.contents c.args.out.now) (g.W.Write.contents c.write.new.self) c.write.result _ (unfit_text c.args.block.now c.args.fault) c.write.ensures.bytes
    (simp (c.in-Misaligned.is, c.first-first.ensures, c.order-order.ensures.value))

pub returns-in-Outside : goal.returns-in-Outside
returns-in-Outside g c =
    only_text (g.W.Write.contents c.args.out.now) (g.W.Write.contents c.write-in-Outside.new.self) c.write-in-Outside.result _ (unfit_text c.args.block.now c.args.fault) c.write-in-Outside.ensures.bytes
    (simp (c.in-Outside.is, c.first-first.ensures))

pub returns-in-Slab : goal.returns-in-Slab
returns-in-Slab g c =
    only_text (g.W.Write.contents c.args.out.now) (g.W.Write.contents c.write-in-Slab.new.self) c.write-in-Slab.result _ (unfit_text c.args.block.now c.args.fault) c.write-in-Slab.ensures.bytes
    (simp (c.in-Slab.is, c.first-first.ensures))
