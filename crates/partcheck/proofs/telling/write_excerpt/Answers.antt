use Rattle.partcheck.specs.Telling.{excerpt_of}
use Rattle.partcheck.proofs.JoinedTexts.{first_text, last_text}
use Rattle.partcheck.proofs.telling.write_excerpt.Goals as goal

pub returns : goal.returns
unfolding excerpt_of
returns g c =
    last_text (g.W.Write.contents c.write_all.new.self) c.write_all.result _ (excerpt_of c.args.none.now c.args.most c.args.text.now)
    (first_text (g.W.Write.contents c.args.out.now) (g.W.Write.contents c.write_begin.new.out) _ c.in_ok-write_begin.ensures) c.write_all.ensures.bytes
    (simp (c.front.ensures, c.as_bytes.ensures.value, c.cut_mark.ensures))
