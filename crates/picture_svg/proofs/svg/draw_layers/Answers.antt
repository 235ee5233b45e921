use Rattle.std.proofs.Common.{◌≡◌, ℕ, ◌+◌, ◌++◌, List, flat_map, ap, sym, ◌∙◌, append_assoc, arith}
use Rattle.std.specs.List.{range_with_len}
use Rattle.frame_picture.specs.declared.history.Column.{Column}
use Rattle.frame_picture.specs.Histories.{columns_of, drawn_order}
use Rattle.picture_svg.specs.Marks.{layer_text}
use Rattle.picture_svg.proofs.MarkLemmas.{a_layer}
use Rattle.picture_svg.proofs.JoinedTexts.{as_text, texts_more, then_exactly, then_text}
use Rattle.picture_svg.proofs.svg.draw_layers.Goals as goal

pub loop-k-preserved : goal.loop-k-preserved
loop-k-preserved g c =
    let k : ℕ = c.loop-k.k in
    let layer : ℕ → List ℕ = layer_text c.columns-columns.result.now c.args.t c.order-order.result c.args.foot c.args.most in
    let layers : List ℕ = flat_map layer (range_with_len 0 k) in
    as_text (flat_map layer (range_with_len 0 (k + 1)))
    (then_exactly (g.W.Write.contents c.writeln.new.self) _
    (then_text (then_exactly (g.W.Write.contents c.write.new.self) _ c.loop-k.invariant c.in_ok-write.ensures.bytes) c.in_ok-draw_turns.ensures)
    c.in_ok-writeln.ensures.bytes)
    (append_assoc (layers ++ _) _ _ ∙ append_assoc layers _ _
    ∙ ap (λ t. layers ++ t) (a_layer c.columns-columns.result.now c.args.t c.order-order.result c.args.foot c.args.most k c.depth_class.result.now
    c.column_width.result.hundred_millionths c.ratio.result.hundred_millionths c.depth_class.ensures c.column_width.ensures c.ratio.ensures)
    ∙ sym (texts_more layer k))

pub returns-in_ok-writeln : goal.returns-in_ok-writeln
returns-in_ok-writeln g c =
    let k : ℕ = c.loop-k.k in
    let order : ℕ = c.order-order.result in
    let columns : List Column = c.columns-columns.result.now in
    let layer : ℕ → List ℕ = layer_text columns c.args.t order c.args.foot c.args.most in
    let layers : List ℕ = flat_map layer (range_with_len 0 k) in
    let last : k ≡ order = omega arith in
    as_text (flat_map (layer_text (columns_of c.args.history.now) c.args.t (drawn_order c.args.history.now) c.args.foot c.args.most)
    (range_with_len 0 (drawn_order c.args.history.now + 1)))
    (then_exactly (g.W.Write.contents c.writeln.new.self) _
    (then_text (then_exactly (g.W.Write.contents c.write.new.self) _ c.loop-k.invariant c.in_ok-write.ensures.bytes) c.in_ok-draw_turns.ensures)
    c.in_ok-writeln.ensures.bytes)
    (append_assoc (layers ++ _) _ _ ∙ append_assoc layers _ _
    ∙ ap (λ t. layers ++ t) (a_layer columns c.args.t order c.args.foot c.args.most k c.depth_class.result.now
    c.column_width.result.hundred_millionths c.ratio.result.hundred_millionths c.depth_class.ensures c.column_width.ensures c.ratio.ensures)
    ∙ sym (texts_more layer k)
    ∙ ap (λ n. flat_map layer (range_with_len 0 (n + 1))) last
    ∙ ap (λ n. flat_map (layer_text columns c.args.t n c.args.foot c.args.most) (range_with_len 0 (n + 1))) c.order-order.ensures.value
    ∙ ap (λ xs. flat_map (layer_text xs c.args.t (drawn_order c.args.history.now) c.args.foot c.args.most) (range_with_len 0 (drawn_order c.args.history.now + 1)))
    c.columns-columns.ensures.all)
