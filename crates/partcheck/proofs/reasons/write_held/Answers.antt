use Rattle.std.proofs.Common.{refl}
use Rattle.partcheck.specs.Reasons.{held_text}
use Rattle.partcheck.proofs.JoinedTexts.{only_text}
use Rattle.partcheck.proofs.reasons.write_held.Goals as goal

pub returns : goal.returns
returns g c =
    only_text (g.W.Write.contents c.args.out.now) (g.W.Write.contents c.write.new.self) c.write.result _ (held_text c.args.slot) c.write.ensures.bytes refl
