use Rattle.partcheck.specs.Reasons.{name_in_report}
use Rattle.partcheck.proofs.JoinedTexts.{only_text}
use Rattle.partcheck.proofs.reasons.write_name_in_report.Goals as goal

pub returns-in-FreeBlocks : goal.returns-in-FreeBlocks
returns-in-FreeBlocks g c =
    only_text (g.W.Write.contents c.args.out.now) (g.W.Write.contents c.write.new.self) c.write.result _ (name_in_report c.args.figure) c.write.ensures.bytes
    (simp c.in-FreeBlocks.is)

pub returns-in-TakenBlocks : goal.returns-in-TakenBlocks
returns-in-TakenBlocks g c =
    only_text (g.W.Write.contents c.args.out.now) (g.W.Write.contents c.write-in-TakenBlocks.new.self) c.write-in-TakenBlocks.result _ (name_in_report c.args.figure) c.write-in-TakenBlocks.ensures.bytes
    (simp c.in-TakenBlocks.is)

pub returns-in-CacheOf : goal.returns-in-CacheOf
returns-in-CacheOf g c =
    only_text (g.W.Write.contents c.args.out.now) (g.W.Write.contents c.write-in-CacheOf.new.self) c.write-in-CacheOf.result _ (name_in_report c.args.figure) c.write-in-CacheOf.ensures.bytes
    (simp c.in-CacheOf.is)

pub returns-in-FullSlabs : goal.returns-in-FullSlabs
returns-in-FullSlabs g c =
    only_text (g.W.Write.contents c.args.out.now) (g.W.Write.contents c.write-in-FullSlabs.new.self) c.write-in-FullSlabs.result _ (name_in_report c.args.figure) c.write-in-FullSlabs.ensures.bytes
    (simp c.in-FullSlabs.is)

pub returns-in-PartialSlabs : goal.returns-in-PartialSlabs
returns-in-PartialSlabs g c =
    only_text (g.W.Write.contents c.args.out.now) (g.W.Write.contents c.write-in-PartialSlabs.new.self) c.write-in-PartialSlabs.result _ (name_in_report c.args.figure) c.write-in-PartialSlabs.ensures.bytes
    (simp c.in-PartialSlabs.is)

pub returns-in-EmptySlabs : goal.returns-in-EmptySlabs
returns-in-EmptySlabs g c =
    only_text (g.W.Write.contents c.args.out.now) (g.W.Write.contents c.write-in-EmptySlabs.new.self) c.write-in-EmptySlabs.result _ (name_in_report c.args.figure) c.write-in-EmptySlabs.ensures.bytes
    (simp c.in-EmptySlabs.is)

pub returns-in-LiveObjects : goal.returns-in-LiveObjects
returns-in-LiveObjects g c =
    only_text (g.W.Write.contents c.args.out.now) (g.W.Write.contents c.write-in-LiveObjects.new.self) c.write-in-LiveObjects.result _ (name_in_report c.args.figure) c.write-in-LiveObjects.ensures.bytes
    (simp c.in-LiveObjects.is)
