use Rattle.std.proofs.Common.{Some, append_assoc}
use Rattle.partcheck.specs.Reasons.{due_bytes_text}
use Rattle.partcheck.proofs.JoinedTexts.{first_text, last_text, then_text}
use Rattle.partcheck.proofs.reasons.write_either.Goals as goal

pub returns : goal.returns
returns g c =
    last_text (g.W.Write.contents c.write_hex-2.new.out) c.write_hex-2.result _ (due_bytes_text c.args.due (Some c.args.fresh))
    (then_text (g.W.Write.contents c.write_all.new.self) _
    (first_text (g.W.Write.contents c.args.out.now) (g.W.Write.contents c.write_hex.new.out) _ c.in_ok-write_hex.ensures)
    c.in_ok-write_all.ensures.bytes)
    c.write_hex-2.ensures (simp append_assoc)
