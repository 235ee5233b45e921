use Rattle.std.proofs.Common.{◌≡◌, ℕ, ◌-◌, List, length, ap, ◌∙◌}
use Rattle.frame_picture.specs.declared.history.Column.{Column}
use Rattle.frame_picture.specs.declared.history.Figures.{Figures}
use Rattle.frame_picture.specs.Stacks.{figures_in_column, refused_until, taken_in_column}
use Rattle.picture_svg.specs.Bands.{IsFiguresText}
use Rattle.picture_svg.proofs.TextLemmas.{figures_is}
use Rattle.picture_svg.proofs.JoinedTexts.{only_text}
use Rattle.picture_svg.proofs.svg.draw_figures.Goals as goal

pub returns : goal.returns
returns g c =
    let columns : List Column = c.args.columns.now in
    let t : ℕ = c.args.t in
    let last : ℕ = length columns - 1 in
    let figures : c.figures_at-figures.result ≡ figures_in_column columns t last =
    c.figures_at-figures.ensures ∙ ap (figures_in_column columns t) c.saturating_sub-last.ensures in
    only_text (g.W.Write.contents c.args.out.now) (g.W.Write.contents c.writeln.new.self) c.writeln.result _
    (IsFiguresText columns t c.args.top) c.writeln.ensures.bytes
    (record {
      most = c.most_taken-most.result;
      greatest = c.most_taken-most.ensures;
      whole = figures_is c.figures_at-figures.result.taken c.figures_at-figures.result.held c.most_taken-most.result c.refused_at-refused.result
          c.saturating_add-y.result c.args.top (taken_in_column columns t last) (figures_in_column columns t last).held (refused_until columns t last)
          (ap (λ (f : Figures). f.taken) figures) (ap (λ (f : Figures). f.held) figures)
          (c.refused_at-refused.ensures ∙ ap (refused_until columns t) c.saturating_sub-last.ensures) c.saturating_add-y.ensures;
    })
