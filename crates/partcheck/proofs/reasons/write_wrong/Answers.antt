use Rattle.std.proofs.Common.{append_assoc}
use Rattle.partcheck.specs.Reasons.{wrong_text}
use Rattle.partcheck.proofs.JoinedTexts.{first_text, last_text, then_text}
use Rattle.partcheck.proofs.reasons.write_wrong.Goals as goal

pub returns : goal.returns
returns g c =
    last_text (g.W.Write.contents c.write_hex.new.out) c.write_hex.result _ (wrong_text c.args.wrong.now)
    (then_text (g.W.Write.contents c.write_all.new.self) _
    (then_text (g.W.Write.contents c.write_due_bytes.new.out) _
    (first_text (g.W.Write.contents c.args.out.now) (g.W.Write.contents c.write.new.self) _ c.in_ok-write.ensures.bytes)
    c.in_ok-write_due_bytes.ensures)
    c.in_ok-write_all.ensures.bytes)
    c.write_hex.ensures (simp append_assoc)
