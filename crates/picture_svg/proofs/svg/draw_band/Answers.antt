use Rattle.std.proofs.Common.{◌≡◌, ℕ, ◌+◌, List, [], ◌∷◌, ◌++◌, ap, subst, ◌∙◌}
use Rattle.std.specs.Prelude.{⊤}
use Rattle.std.specs.List.{concat}
use Rattle.frame_picture.specs.declared.grid.Grid.{Grid}
use Rattle.frame_picture.specs.declared.history.Column.{Column}
use Rattle.frame_picture.specs.declared.history.History.{History}
use Rattle.frame_picture.specs.Histories.{columns_of}
use Rattle.picture_svg.specs.declared.svg.TheConstants.{ABOVE, REFUSALS_TOP, STACK, STACK_TOP}
use Rattle.picture_svg.specs.Bands.{foot_of, IsBand, IsFiguresText, IsStackText}
use Rattle.picture_svg.specs.Cells.{AreRows}
use Rattle.picture_svg.specs.Marks.{refusals_text}
use Rattle.picture_svg.specs.Sizes.{lower}
use Rattle.picture_svg.specs.Texts.{tenant_title}
use Rattle.picture_svg.proofs.TextLemmas.{band_parts}
use Rattle.picture_svg.proofs.JoinedTexts.{exactly, last_texts, two}
use Rattle.picture_svg.proofs.svg.draw_band.Goals as goal

pub returns : goal.returns
returns g c =
    let history : History = c.args.history.now in
    let grid : Grid = c.args.grid in
    let t : ℕ = c.args.t in
    let top : ℕ = c.args.top in
    let gap : ℕ = c.args.gap in
    let bottom : c.saturating_add-bottom.result ≡ foot_of grid top =
    c.saturating_add-bottom.ensures ∙ ap (λ y. lower y c.rows_height-height.result) c.saturating_add-y.ensures
    ∙ ap (λ h. lower (lower top ABOVE) h) c.rows_height-height.ensures in
    let refusals : c.saturating_add-refusals.result ≡ lower (foot_of grid top) REFUSALS_TOP =
    c.saturating_add-refusals.ensures ∙ ap (λ b. lower b REFUSALS_TOP) bottom in
    let foot : c.saturating_add-foot.result ≡ lower (foot_of grid top) (STACK_TOP + STACK) =
    c.saturating_add-foot.ensures ∙ ap (λ b. lower b (STACK_TOP + STACK)) bottom in
    last_texts (g.W.Write.contents c.draw_lines_axis.new.out) c.draw_lines_axis.result (λ _. ⊤) (IsBand history t grid c.args.cells.now top gap)
    (two (two (two (two (two (two (two c.in_ok-draw_title.ensures c.in_ok-draw_figures.ensures)
    (exactly (g.W.Write.contents c.draw_figures.new.out) (g.W.Write.contents c.writeln.new.self) _ c.in_ok-writeln.ensures.bytes))
    c.in_ok-draw_rows.ensures) c.in_ok-draw_frames_axis.ensures) c.in_ok-draw_slots_axis.ensures) c.in_ok-draw_refusals.ensures) c.in_ok-draw_stack.ensures)
    c.draw_lines_axis.ensures
    (λ x y seven _.
    let six = seven.2 in
    let five = six.2 in
    let four = five.2 in
    let three = four.2 in
    let second = three.2 in
    let one = second.2 in
    let marks : six.1 ≡ refusals_text (columns_of history) t (lower (foot_of grid top) REFUSALS_TOP) gap =
    six.3 ∙ ap (λ (xs : List Column). refusals_text xs t c.saturating_add-refusals.result gap) c.columns-2.ensures.all
    ∙ ap (λ k. refusals_text (columns_of history) t k gap) refusals in
    record {
      figures = one.1;
      ground = second.1;
      rows = three.1;
      axes = four.1 ++ five.1;
      stack = seven.1;
      lines = y;
      are_figures = subst (λ (xs : List Column). IsFiguresText xs t top one.1) c.columns.ensures.all one.3;
      are_rows = subst (λ k. AreRows c.args.cells.now grid k three.1) bottom three.3;
      is_stack = subst (λ k. IsStackText history t k seven.1) foot seven.3;
      whole =
          ap (λ s. s ++ y) (seven.4 ∙ ap (λ s. s ++ seven.1) (six.4 ∙ ap (λ s. s ++ six.1) (five.4 ∙ ap (λ s. s ++ five.1) (four.4
          ∙ ap (λ s. s ++ four.1) (three.4 ∙ ap (λ s. s ++ three.1) (second.4 ∙ ap (λ s. s ++ second.1) (one.4 ∙ ap (λ s. s ++ one.1) one.2)))))))
          ∙ band_parts (tenant_title t grid.frames_per_row top) one.1 second.1 three.1 four.1 five.1 six.1 seven.1 y
          ∙ ap (λ s. concat (tenant_title t grid.frames_per_row top ∷ one.1 ∷ second.1 ∷ three.1 ∷ (four.1 ++ five.1) ∷ s ∷ seven.1 ∷ y ∷ [])) marks;
    })
