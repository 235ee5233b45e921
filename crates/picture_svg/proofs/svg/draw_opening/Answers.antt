use Rattle.std.proofs.Common.{subst, append_assoc}
use Rattle.std.specs.Io.KnownBytes.{Appends}
use Rattle.picture_svg.specs.declared.svg.TheConstants.{STYLE}
use Rattle.picture_svg.specs.Texts.{opening_text}
use Rattle.picture_svg.proofs.JoinedTexts.{exactly, then_exactly, last_exactly}
use Rattle.picture_svg.proofs.svg.draw_opening.Goals as goal

pub returns : goal.returns
unfolding opening_text
returns g c =
    let style = subst (λ s. Appends (g.W.Write.contents c.writeln.new.self) (g.W.Write.contents c.write_all.new.self) s) c.as_bytes.ensures.value
    c.in_ok-write_all.ensures.bytes in
    last_exactly (g.W.Write.contents c.writeln-2.new.self) c.writeln-2.result _ (opening_text c.args.height)
    (then_exactly (g.W.Write.contents c.write_all.new.self) STYLE.now
    (exactly (g.W.Write.contents c.args.out.now) (g.W.Write.contents c.writeln.new.self) _ c.in_ok-writeln.ensures.bytes) style)
    c.writeln-2.ensures.bytes (simp append_assoc)
