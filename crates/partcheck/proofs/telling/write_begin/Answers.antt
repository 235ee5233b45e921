use Rattle.std.proofs.Common.{◌≡◌, ◌∙◌, true, false, sym}
use Rattle.partcheck.specs.Telling.{begin_text, is_shown_plain}
use Rattle.partcheck.proofs.JoinedTexts.{first_text, last_text, only_text, then_text}
use Rattle.partcheck.proofs.telling.write_begin.Goals as goal

pub returns-then-is_shown_plain : goal.returns-then-is_shown_plain
unfolding begin_text
returns-then-is_shown_plain g c =
    let plain : is_shown_plain c.args.none.now c.args.text.now ≡ true = sym c.is_shown_plain.ensures ∙ c.if-is_shown_plain.true in
    only_text (g.W.Write.contents c.args.out.now) (g.W.Write.contents c.write_plain.new.out) c.write_plain.result _
    (begin_text c.args.none.now c.args.text.now c.args.begin.now) c.write_plain.ensures (rw plain)

pub returns : goal.returns
unfolding begin_text
returns g c =
    let quoted : is_shown_plain c.args.none.now c.args.text.now ≡ false = sym c.is_shown_plain.ensures ∙ c.if-is_shown_plain.false in
    last_text (g.W.Write.contents c.write_all-2.new.self) c.write_all-2.result _ (begin_text c.args.none.now c.args.text.now c.args.begin.now)
    (then_text (g.W.Write.contents c.write_escaped.new.out) _
    (first_text (g.W.Write.contents c.args.out.now) (g.W.Write.contents c.write_all.new.self) _ c.in_ok-write_all.ensures.bytes) c.in_ok-write_escaped.ensures)
    c.write_all-2.ensures.bytes (rw quoted)
