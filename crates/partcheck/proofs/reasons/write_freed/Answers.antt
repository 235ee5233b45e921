use Rattle.partcheck.specs.Reasons.{freed_text}
use Rattle.partcheck.proofs.JoinedTexts.{only_text}
use Rattle.partcheck.proofs.reasons.write_freed.Goals as goal

pub returns : goal.returns
returns g c =
    only_text (g.W.Write.contents c.args.out.now) (g.W.Write.contents c.write.new.self) c.write.result _ (freed_text c.args.page.now) c.write.ensures.bytes
    (simp (c.first-first.ensures, c.order-order.ensures.value))
