use Rattle.std.specs.Prelude.{⊤}
use Rattle.picture_svg.proofs.JoinedTexts.{last_texts, more_texts}
use Rattle.picture_svg.proofs.svg.draw_kinds.Goals as goal

pub loop-cell-preserved : goal.loop-cell-preserved
loop-cell-preserved g c = more_texts (more_texts c.loop-cell.invariant c.in_ok-draw_swatch.ensures) c.in_ok-draw_word.ensures

pub returns : goal.returns
returns g c =
    last_texts (g.W.Write.contents c.draw_word-2.new.out) c.draw_word-2.result (λ _. ⊤) (λ _. ⊤)
    (more_texts c.loop-cell.invariant c.in_ok-draw_swatch-2.ensures) c.draw_word-2.ensures (λ _ _ _ _. tt)
