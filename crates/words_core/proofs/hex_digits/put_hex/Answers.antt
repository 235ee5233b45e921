use Rattle.std.proofs.Common.{◌∙◌, ◌++◌, take, sym, ap, take-append-drop, arith}
use Rattle.words_core.proofs.HexLemmas.{hex_part}
use Rattle.words_core.proofs.hex_digits.put_hex.Goals as goal

pub fours-preserved : goal.fours-preserved
fours-preserved c =
    let front = c.in-Some.ensures.cases in
    record {
      text = hex_part _ (take c.fours.end c.fours.out) _ c.fours.rest.now c.in-Some.four.now c.in-Some.behind.now
          (c.put_text-end.ensures.text ∙ ap (λ digits. take c.fours.end c.fours.out ++ digits) c.hex_of_four.ensures)
          (sym ((λ t. front.0 t ++ front.1 t) ∙ take-append-drop 4 c.fours.rest.now)) c.fours.invariant.text;
      end = omega (arith, c.put_text-end.ensures.end, c.fours.invariant.end, front.2);
    }
