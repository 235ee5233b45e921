use Rattle.std.proofs.Common.{append_assoc}
use Rattle.partcheck.specs.Reasons.{report_text}
use Rattle.partcheck.proofs.JoinedTexts.{first_text, last_text, then_text}
use Rattle.partcheck.proofs.reasons.write_report.Goals as goal

pub returns : goal.returns
returns g c =
    last_text (g.W.Write.contents c.write_bound.new.out) c.write_bound.result _ (report_text c.args.wrong.now)
    (then_text (g.W.Write.contents c.write_name_in_report.new.out) _
    (first_text (g.W.Write.contents c.args.out.now) (g.W.Write.contents c.write_all.new.self) _ c.in_ok-write_all.ensures.bytes)
    c.in_ok-write_name_in_report.ensures)
    c.write_bound.ensures (simp append_assoc)
