use Rattle.std.proofs.Common.{◌≡◌, ℕ, ◌+◌, ◌<◌, true, false, List, [], ◌∷◌, ◌++◌, filter, take, refl, sym, ◌∙◌, ap, arith, eq-eqb, ne_eqb, lt-ltb, le-ltb}
use Rattle.std.specs.List.{AllZip, concat}
use Rattle.std.proofs.lemmas.Bool.{or_left, or_right, or_from}
use Rattle.picture_svg.specs.Cells.{is_drawn, shade_of, IsTonePath}
use Rattle.picture_svg.proofs.CellLemmas.{concat_push, kept_more, passed_over, quarters_are, quarters_at, tone_at}
use Rattle.picture_svg.proofs.JoinedTexts.{both}
use Rattle.picture_svg.proofs.svg.draw_shades.Goals as goal
use Rattle.picture_svg.proofs.svg.draw_shades.Goals.{then-quarters-eq4+in_ok-draw_tone, then-quarters-eq4-via-then-quarters-eq4, then-quarters-eq4-via-else-quarters-eq4+then-grid-gt1, else-quarters-eq4+else-grid-gt1}

pub loop-shade-preserved : goal.loop-shade-preserved
loop-shade-preserved g c =
    let i : ℕ = c.loop-shade.shade-index in
    let less : i < 4 = omega arith in
    elim c.if-quarters-eq4.branch [
      | then-quarters-eq4+in_ok-draw_tone w ↦
          let h = tone_at c.args.columns.now c.min-rows.result c.args.kind _ _ _ _ _ i less refl refl refl refl w.in_ok-draw_tone.ensures in
          let drawn : is_drawn c.args.grid (quarters_at i) ≡ true = elim w.then-quarters-eq4.branch [
            | then-quarters-eq4-via-then-quarters-eq4 w' ↦
                or_left _ _ (eq-eqb (quarters_at i) 4 (sym (quarters_are _ _ _ _ _ i less) ∙ w'.if-quarters-eq4.true))
            | then-quarters-eq4-via-else-quarters-eq4+then-grid-gt1 w' ↦ or_right _ _ (lt-ltb 1 c.args.grid.frames_per_row w'.if-grid-gt1.true)
          ] in
          rw w.out-is (both
          (λ text. (paths : List (List ℕ))
          × AllZip (λ quarters path. IsTonePath c.args.columns.now c.min-rows.result (record { kind = c.args.kind; quarters = quarters }) (shade_of quarters) path)
          (filter (is_drawn c.args.grid) (take (i + 1) (1 ∷ 2 ∷ 3 ∷ 4 ∷ []))) paths
          × (text ≡ concat paths))
          c.loop-shade.invariant h
          (λ x y before here. (
            before.0 ++ y ∷ [],
            kept_more (λ quarters path. IsTonePath c.args.columns.now c.min-rows.result (record { kind = c.args.kind; quarters = quarters }) (shade_of quarters) path)
                (is_drawn c.args.grid) (1 ∷ 2 ∷ 3 ∷ 4 ∷ []) i 0 before.0 y less drawn before.1 here,
            ap (λ t. t ++ y) before.2 ∙ concat_push before.0 y,
          )))
      | else-quarters-eq4+else-grid-gt1 w ↦
          let none : is_drawn c.args.grid (quarters_at i) ≡ false =
          or_from _ _ (ne_eqb (quarters_at i) 4 (λ e. w.if-quarters-eq4.false (quarters_are _ _ _ _ _ i less ∙ e)))
          (le-ltb 1 c.args.grid.frames_per_row w.if-grid-gt1.false) in
          let here = c.loop-shade.invariant in
          rw w.out-is (record {
            text = here.text;
            appended = here.appended;
            is = (
              here.is.0,
              passed_over (λ quarters path. IsTonePath c.args.columns.now c.min-rows.result (record { kind = c.args.kind; quarters = quarters }) (shade_of quarters) path)
                  (is_drawn c.args.grid) (1 ∷ 2 ∷ 3 ∷ 4 ∷ []) i 0 here.is.0 less none here.is.1,
              here.is.2,
            );
          })
    ]
