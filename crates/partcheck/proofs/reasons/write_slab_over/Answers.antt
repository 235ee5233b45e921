use Rattle.partcheck.specs.Reasons.{slab_over_text}
use Rattle.partcheck.proofs.JoinedTexts.{only_text}
use Rattle.partcheck.proofs.reasons.write_slab_over.Goals as goal

pub returns : goal.returns
returns g c =
    only_text (g.W.Write.contents c.args.out.now) (g.W.Write.contents c.write.new.self) c.write.result _ (slab_over_text c.args.page.now) c.write.ensures.bytes
    (simp (c.order-order.ensures.value, c.first-first.ensures))
