use Rattle.std.proofs.Common.{append_assoc}
use Rattle.partcheck.specs.Reasons.{figure_text}
use Rattle.partcheck.proofs.JoinedTexts.{first_text, last_text}
use Rattle.partcheck.proofs.reasons.write_figure.Goals as goal

pub returns : goal.returns
returns g c =
    last_text (g.W.Write.contents c.write_bound.new.out) c.write_bound.result _ (figure_text c.args.figure c.args.bound)
    (first_text (g.W.Write.contents c.args.out.now) (g.W.Write.contents c.write.new.self) _ c.in_ok-write.ensures.bytes)
    c.write_bound.ensures (simp (append_assoc, c.name_of_figure-name.ensures))
