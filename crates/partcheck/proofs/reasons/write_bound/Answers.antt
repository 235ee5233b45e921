use Rattle.partcheck.specs.Reasons.{bound_text}
use Rattle.partcheck.proofs.JoinedTexts.{only_text}
use Rattle.partcheck.proofs.reasons.write_bound.Goals as goal

pub returns-in-Exactly : goal.returns-in-Exactly
returns-in-Exactly g c =
    only_text (g.W.Write.contents c.args.out.now) (g.W.Write.contents c.write.new.self) c.write.result _ (bound_text c.args.bound) c.write.ensures.bytes
    (simp c.in-Exactly.is)

pub returns-in-AtLeast : goal.returns-in-AtLeast
returns-in-AtLeast g c =
    only_text (g.W.Write.contents c.args.out.now) (g.W.Write.contents c.write-in-AtLeast.new.self) c.write-in-AtLeast.result _ (bound_text c.args.bound) c.write-in-AtLeast.ensures.bytes
    (simp c.in-AtLeast.is)

pub returns-in-AtMost : goal.returns-in-AtMost
returns-in-AtMost g c =
    only_text (g.W.Write.contents c.args.out.now) (g.W.Write.contents c.write-in-AtMost.new.self) c.write-in-AtMost.result _ (bound_text c.args.bound) c.write-in-AtMost.ensures.bytes
    (simp c.in-AtMost.is)

pub returns-in-MultipleOf : goal.returns-in-MultipleOf
returns-in-MultipleOf g c =
    only_text (g.W.Write.contents c.args.out.now) (g.W.Write.contents c.write-in-MultipleOf.new.self) c.write-in-MultipleOf.result _ (bound_text c.args.bound) c.write-in-MultipleOf.ensures.bytes
    (simp c.in-MultipleOf.is)
