use Rattle.std.proofs.Common.{◌≡◌, ℕ, ◌+◌, ◌++◌, List, SomeIndex, codes, flat_map, ap, subst, ◌∙◌}
use Rattle.std.specs.Fmt.{decimal}
use Rattle.std.specs.List.{range_with_len}
use Rattle.frame_picture.specs.declared.history.Column.{Column}
use Rattle.frame_picture.specs.Bounds.{IsGreatest}
use Rattle.frame_picture.specs.Histories.{columns_of, drawn_order}
use Rattle.frame_picture.specs.Stacks.{free_in_column}
use Rattle.picture_svg.specs.declared.svg.TheConstants.{LEFT}
use Rattle.picture_svg.specs.Bands.{IsStackText}
use Rattle.picture_svg.specs.Marks.{layer_text, scale_text}
use Rattle.picture_svg.proofs.MarkLemmas.{a_stack}
use Rattle.picture_svg.proofs.JoinedTexts.{exactly, last_texts, then_text}
use Rattle.picture_svg.proofs.svg.draw_stack.Goals as goal

pub returns : goal.returns
returns g c =
    let columns : List Column = columns_of c.args.history.now in
    let order : ℕ = drawn_order c.args.history.now in
    let most : ℕ = c.most_free-most.result in
    let layers : List ℕ = flat_map (layer_text columns c.args.t order c.args.foot most) (range_with_len 0 (order + 1)) in
    let front : List ℕ = codes "<text x=\"" ++ (decimal LEFT ++ (codes "\" y=\"" ++ (decimal c.saturating_sub.result ++ (codes "\">free frames, at most "
    ++ (decimal most ++ codes "</text>\n"))))) in
    let greatest : IsGreatest (λ frames. SomeIndex columns (λ n. free_in_column columns c.args.t 0 n ≡ frames)) 1 most =
    subst (λ (xs : List Column). IsGreatest (λ frames. SomeIndex xs (λ n. free_in_column xs c.args.t 0 n ≡ frames)) 1 most) c.columns.ensures.all
    c.most_free-most.ensures in
    last_texts (g.W.Write.contents c.draw_scale.new.out) c.draw_scale.result (λ text. text ≡ scale_text c.saturating_sub-top.result c.args.foot most)
    (IsStackText c.args.history.now c.args.t c.args.foot)
    (then_text (exactly (g.W.Write.contents c.args.out.now) (g.W.Write.contents c.writeln.new.self) front c.in_ok-writeln.ensures.bytes)
    c.in_ok-draw_layers.ensures)
    c.draw_scale.ensures
    (λ x y begins ends. record {
      most = most;
      greatest = greatest;
      whole = ap (λ s. s ++ y) begins ∙ ap (λ s. (front ++ layers) ++ s) ends
          ∙ a_stack columns c.args.t order c.args.foot most c.saturating_sub-top.result c.saturating_sub.result c.saturating_sub-top.ensures c.saturating_sub.ensures;
    })
