use Rattle.partcheck.specs.Reasons.{object_text}
use Rattle.partcheck.proofs.JoinedTexts.{only_text}
use Rattle.partcheck.proofs.reasons.write_object.Goals as goal

pub returns-in-Misaligned : goal.returns-in-Misaligned
returns-in-Misaligned g c =
    only_text (g.W.Write.contents c.args.out.now) (g.W.Write.contents c.write.new.self) c.write.result _ (object_text c.args.place c.args.fault.now) c.write.ensures.bytes
    (simp c.in-Misaligned.is)

pub returns-in-Over : goal.returns-in-Over
returns-in-Over g c =
    only_text (g.W.Write.contents c.args.out.now) (g.W.Write.contents c.write-in-Over.new.self) c.write-in-Over.result _ (object_text c.args.place c.args.fault.now) c.write-in-Over.ensures.bytes
    (simp c.in-Over.is)

pub returns-in-OffGrid : goal.returns-in-OffGrid
returns-in-OffGrid g c =
    only_text (g.W.Write.contents c.args.out.now) (g.W.Write.contents c.write-in-OffGrid.new.self) c.write-in-OffGrid.result _ (object_text c.args.place c.args.fault.now) c.write-in-OffGrid.ensures.bytes
    (simp c.in-OffGrid.is)
