use Rattle.std.proofs.Common.{rules, ◌≡◌, ℕ, ◌+◌, ◌-◌, ◌^◌, ◌≤◌, max, min, List, [], ◌∷◌, ◌++◌, Some, length, take, slice_get, option_copied, refl, ap, subst, sym, ◌∙◌, append-nil, append_assoc, arith, length-append, length-take, codes}
use Rattle.std.proofs.lemmas.List.{with_items_is, places}
use Rattle.frame_picture.specs.declared.drawing.Tone.{Tone}
use Rattle.frame_picture.specs.declared.grid.Grid.{Grid}
use Rattle.frame_picture.specs.declared.history.Column.{Column}
use Rattle.frame_picture.specs.declared.history.History.{History}
use Rattle.frame_picture.specs.Grids.{IsGridOf}
use Rattle.frame_picture.specs.Histories.{columns_of, drawn_order, line_count, superblocks_of, width_of}
use Rattle.picture_svg.specs.declared.picture.Picture.{Picture}
use Rattle.picture_svg.specs.declared.svg.TheConstants.{HEAD}
use Rattle.picture_svg.specs.Bands.{AreCellsOf, IsBand}
use Rattle.picture_svg.specs.Pictures.{bottom_of, drawn_tenants, most_columns_in, most_rows_of, rows_of, AreBands, IsPictureOf}
use Rattle.picture_svg.specs.Sizes.{band_height, lower}
use Rattle.picture_svg.specs.Texts.{opening_text, title_text}
use Rattle.picture_svg.proofs.PictureLemmas.{bands_push, bottom_push, grids_of_bands, grids_push, in_front, same_heights}
use Rattle.picture_svg.proofs.JoinedTexts.{and_text, both, flushed}
use Rattle.picture_svg.proofs.picture.Picture.draw.Goals as goal

pub loop-t-preserved : goal.loop-t-preserved
loop-t-preserved g c =
    let most : ℕ = most_rows_of (drawn_tenants c.args.self.now) in
    let bands = c.loop-t.invariant.bands in
    let grids : List Grid = bands.0 in
    let grid : Grid = c.grid.result in
    let first : ℕ = c.args.self.now.first in
    let count : length grids ≡ c.loop-t.t - first = bands.2 in
    let from : first ≤ c.loop-t.t = c.loop-t.auto.t in
    record {
      same = refl;
      within = omega arith;
      bands = (
        grids ++ grid ∷ [],
        grids_push c.args.history.now most first c.loop-t.t grids grid (omega arith) bands.1 c.grid.ensures,
        omega (arith, length-append grids (grid ∷ [])),
        c.saturating_add-height.ensures ∙ ap (λ b. lower c.loop-t.height b) c.band_height.ensures
            ∙ ap (λ top. lower top (band_height grid.rows)) bands.3 ∙ sym (bottom_push HEAD grids grid),
      );
    }

pub loop-t-2-init : goal.loop-t-2-init
loop-t-2-init g c =
    let history : History = c.args.history.now in
    let title : List ℕ = title_text (line_count history) (option_copied c.args.name) (superblocks_of history) (2 ^ drawn_order history) (width_of history) in
    let opening : List ℕ = opening_text c.loop-t.height in
    let first : ℕ = c.args.self.now.first in
    record {
      same = record { first = refl; end = refl; columns = refl; gap = refl };
      within = omega arith;
      drawn = both (λ text. (grids : List Grid) × (legend : List ℕ) × (bands : List ℕ) × (length grids ≡ first - first)
          × AreBands c.args.self.now history first HEAD grids bands × (bottom_of HEAD (rows_of grids) ≡ HEAD)
          × (text ≡ (opening ++ (title ++ legend)) ++ bands))
          c.in_ok-draw_opening.ensures c.in_ok-draw_head.ensures
          (λ x y is head. (
            [],
            head.0,
            [],
            omega arith,
            refl,
            refl,
            ap (λ t. t ++ y) is ∙ ap (λ t. opening ++ t) head.1 ∙ sym (append-nil (opening ++ (title ++ head.0))),
          ));
    }

pub loop-t-2-preserved : goal.loop-t-2-preserved
loop-t-2-preserved g c =
    let history : History = c.args.history.now in
    let picture : Picture = c.args.self.now in
    let drawing : Picture = c.loop-t-2.self in
    let t : ℕ = c.loop-t-2.t in
    let top : ℕ = c.loop-t-2.top in
    let grid : Grid = c.grid-grid.result in
    let same = c.loop-t-2.invariant.same in
    let tenants : drawn_tenants drawing ≡ drawn_tenants picture = omega (arith, same.first, same.end) in
    let from : picture.first ≤ t = omega (arith, same.first, c.loop-t-2.auto.t) in
    let title : List ℕ = title_text (line_count history) (option_copied c.args.name) (superblocks_of history) (2 ^ drawn_order history) (width_of history) in
    let opening : List ℕ = opening_text c.loop-t.height in
    let cells : List (List Tone) = take c.min-columns.result c.deref.result.now in
    let items : c.deref.result.now ≡ c.set_cells.new.cells =
    c.deref.ensures.value ∙ with_items_is drawing.cells c.set_cells.new.cells (search (rules, places)) in
    let long : length c.deref.result.now ≡ most_columns_in picture = ap length items ∙ search (rules, places) in
    let columns : length c.columns-in-loop-t-2.result.now ≡ length (columns_of history) = ap length c.columns-in-loop-t-2.ensures.all in
    let count : length cells ≡ min (length (columns_of history)) (most_columns_in picture) =
    omega (arith, length-take c.min-columns.result c.deref.result.now, c.min-columns.ensures, c.len.ensures, long, columns, same.columns) in
    let is_grid : IsGridOf history t (most_rows_of (drawn_tenants picture)) grid =
    subst (λ n. IsGridOf history t (most_rows_of n) grid) tenants c.grid-grid.ensures in
    let are_cells : AreCellsOf (columns_of history) t grid cells = record {
      few = omega (arith, count);
      each = λ at row column tones there here few shown.
          c.set_cells.ensures at row column tones
          (subst (λ (xs : List Column). slice_get xs at ≡ Some column) (sym c.columns.ensures.all) there)
          (subst (λ (xs : List (List Tone)). slice_get xs at ≡ Some tones) items (in_front c.deref.result.now c.min-columns.result at tones here)) few shown;
    } in
    record {
      same = record { first = same.first; end = same.end; columns = same.columns; gap = same.gap };
      within = omega (arith, same.end, c.loop-t-2-test.true);
      drawn = both (λ text. (grids : List Grid) × (legend : List ℕ) × (bands : List ℕ) × (length grids ≡ t + 1 - picture.first)
          × AreBands picture history picture.first HEAD grids bands × (bottom_of HEAD (rows_of grids) ≡ c.saturating_add-top.result)
          × (text ≡ (opening ++ (title ++ legend)) ++ bands))
          c.loop-t-2.invariant.drawn c.in_ok-draw_band.ensures
          (λ x y is band.
          let grids : List Grid = is.0 in
          let counted : length grids ≡ t - picture.first = is.3 in (
            grids ++ grid ∷ [],
            is.1,
            is.2 ++ y,
            omega (arith, length-append grids (grid ∷ [])),
            bands_push picture history picture.first HEAD t top grids grid is.2 y (omega arith) is.5 is.4 (record {
              cells = cells;
              is_grid = is_grid;
              long = count;
              are_cells = are_cells;
              is_band = subst (λ gap. IsBand history t grid cells top gap y) same.gap band;
            }),
            bottom_push HEAD grids grid ∙ ap (λ k. lower k (band_height grid.rows)) is.5 ∙ ap (λ b. lower top b) (sym c.band_height-in-loop-t-2.ensures)
                ∙ sym c.saturating_add-top.ensures,
            ap (λ s. s ++ y) is.6 ∙ append_assoc (opening ++ (title ++ is.1)) is.2 y,
          ));
    }

-- the parts of a picture, appended one after another, give the text in the definition of a picture
ends : (opening title legend bands : List ℕ) → ((opening ++ (title ++ legend)) ++ bands) ++ codes "</svg>\n"
    ≡ opening ++ (title ++ (legend ++ (bands ++ codes "</svg>\n")))
ends opening title legend bands = simp append_assoc

pub returns-clause-drawn : goal.returns-clause-drawn
returns-clause-drawn g c =
    let history : History = c.args.history.now in
    let picture : Picture = c.args.self.now in
    let same = c.loop-t-2.invariant.same in
    let most : ℕ = most_rows_of (drawn_tenants picture) in
    let title : List ℕ = title_text (line_count history) (option_copied c.args.name) (superblocks_of history) (2 ^ drawn_order history) (width_of history) in
    let last : c.loop-t.t ≡ max picture.first picture.end = omega (arith, c.loop-t.invariant.within, c.loop-t.auto.t) in
    let last_drawn : c.loop-t-2.t ≡ max picture.first picture.end = omega (arith, c.loop-t-2.invariant.within, c.loop-t-2.auto.t) in
    let heights = c.loop-t.invariant.bands in
    flushed (g.W.Write.contents c.flush.new.self) c.flush.result
    (and_text (g.W.Write.contents c.write_all.new.self) (codes "</svg>\n") (IsPictureOf picture history (option_copied c.args.name))
    c.loop-t-2.invariant.drawn c.in_ok-write_all.ensures.bytes
    (λ x is.
    let counted : length is.0 ≡ c.loop-t-2.t - picture.first = is.3 in
    let count : length heights.0 ≡ c.loop-t.t - picture.first = heights.2 in
    let rows : rows_of heights.0 ≡ rows_of is.0 =
    same_heights history most picture.first heights.0 is.0 (omega arith) heights.1 (grids_of_bands picture history picture.first HEAD is.0 is.2 is.4) in
    record {
      grids = is.0;
      legend = is.1;
      bands = is.2;
      tenants = omega (arith, counted, last_drawn);
      are_bands = is.4;
      whole = ap (λ s. s ++ codes "</svg>\n") is.6 ∙ ends (opening_text c.loop-t.height) title is.1 is.2
          ∙ ap (λ h. opening_text h ++ (title ++ (is.1 ++ (is.2 ++ codes "</svg>\n")))) (heights.3 ∙ ap (bottom_of HEAD) rows);
    }))
    c.flush.ensures.bytes
