use Rattle.partcheck.specs.Telling.{kept_text}
use Rattle.partcheck.proofs.JoinedTexts.{only_text}
use Rattle.partcheck.proofs.telling.write_kept.Goals as goal

pub returns : goal.returns
unfolding kept_text
returns g c =
    only_text (g.W.Write.contents c.args.out.now) (g.W.Write.contents c.writeln.new.self) c.writeln.result _ (kept_text c.args.lines c.args.tenants) c.writeln.ensures.bytes
    (simp (c.counted-lines_word.ensures, c.counted-tenants_word.ensures, c.from.ensures))
