use Rattle.std.proofs.Common.{◌≡◌, ℕ, ◌*◌, ◌%◌, ◌^◌, List, ◌++◌, Option, codes, flat_map, option_copied, ap, sym, ◌∙◌, append_assoc, arith}
use Rattle.std.specs.Prelude.{⊤}
use Rattle.std.specs.Fmt.{decimal}
use Rattle.frame_picture.specs.declared.history.History.{History}
use Rattle.frame_picture.specs.Histories.{drawn_order, line_count, superblocks_of, width_of}
use Rattle.frame_picture.proofs.PowerLemmas.{shifted}
use Rattle.picture_svg.specs.declared.svg.TheConstants.{LEFT}
use Rattle.picture_svg.specs.Texts.{escaped, name_text, title_text, AppendsText}
use Rattle.picture_svg.proofs.TextLemmas.{title_is}
use Rattle.picture_svg.proofs.JoinedTexts.{as_text, exactly, last_texts, then_exactly, then_text, two}
use Rattle.picture_svg.proofs.svg.draw_head.Goals as goal
use Rattle.picture_svg.proofs.svg.draw_head.Goals.{in-Some+in_ok-write_escaped-in-Some, in-None+in_ok-write_all-in-None}

pub returns : goal.returns
returns g c =
    let history : History = c.args.history.now in
    let name : Option (List ℕ) = option_copied c.args.name in
    let frames : ℕ = 1 * 2 ^ c.order.result % 2 ^ 32 in
    let is_frames : frames ≡ 2 ^ drawn_order history = shifted c.order.result (omega (arith, c.order.ensures.small)) ∙ ap (λ k. 2 ^ k) c.order.ensures.value in
    let begin : List ℕ = codes "<text class=\"head\" x=\"" ++ (decimal LEFT ++ (codes "\" y=\"30\">Frames over " ++ (decimal c.lines-lines.result ++ codes " lines of "))) in
    let end : List ℕ = codes "</text>\n<text x=\"" ++ (decimal LEFT ++ (codes "\" y=\"50\">Superblocks: " ++ (decimal c.superblocks-superblocks.result
    ++ (codes ", of " ++ (decimal frames ++ (codes " frames each. Lines to a column: " ++ (decimal c.width-width.result
    ++ codes "; it shows the machine after the last of them.</text>\n"))))))) in
    let title : List ℕ = title_text (line_count history) name (superblocks_of history) (2 ^ drawn_order history) (width_of history) in
    let named : AppendsText (g.W.Write.contents c.write.new.self) (g.W.Write.contents c.match-name.out) (λ text. text ≡ name_text name) =
    elim c.match-name.branch [
      | in-Some+in_ok-write_escaped-in-Some w ↦
          rw w.out-is (as_text (name_text name) w.in_ok-write_escaped-in-Some.ensures
          (ap (flat_map escaped) w.as_bytes.ensures.value ∙ sym (ap (λ o. name_text (option_copied o)) w.in-Some.is)))
      | in-None+in_ok-write_all-in-None w ↦
          rw w.out-is (as_text (name_text name)
          (exactly (g.W.Write.contents c.write.new.self) (g.W.Write.contents w.write_all.new.self) (codes "a trace") w.in_ok-write_all-in-None.ensures.bytes)
          (sym (ap (λ o. name_text (option_copied o)) w.in-None.is)))
    ] in
    last_texts (g.W.Write.contents c.draw_orders.new.out) c.draw_orders.result (λ _. ⊤) (λ text. (legend : List ℕ) × (text ≡ title ++ legend))
    (two (as_text title
    (then_exactly (g.W.Write.contents c.writeln.new.self) end
    (then_text (exactly (g.W.Write.contents c.args.out.now) (g.W.Write.contents c.write.new.self) begin c.in_ok-write.ensures.bytes) named)
    c.in_ok-writeln.ensures.bytes)
    (title_is name c.lines-lines.result c.superblocks-superblocks.result frames c.width-width.result (line_count history) (superblocks_of history)
    (2 ^ drawn_order history) (width_of history) c.lines-lines.ensures c.superblocks-superblocks.ensures.value is_frames c.width-width.ensures.value))
    c.in_ok-draw_kinds.ensures)
    c.draw_orders.ensures
    (λ x y p _. (p.1 ++ y, ap (λ s. s ++ y) (p.4 ∙ ap (λ s. s ++ p.1) p.2) ∙ append_assoc title p.1 y))
