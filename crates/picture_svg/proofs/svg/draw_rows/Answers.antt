use Rattle.std.proofs.Common.{rules, ◌≡◌, ℕ, ◌+◌, ◌<◌, List, [], ◌∷◌, ◌++◌, codes, length, take, get_or, refl, ap, sym, subst, ◌∙◌, append-nil, append_assoc, arith}
use Rattle.std.proofs.lemmas.List.{get_or_default}
use Rattle.std.specs.Fmt.{decimal}
use Rattle.std.specs.List.{AllZip, concat}
use Rattle.kernel_core.specs.declared.frames.FrameKind.{FrameKind}
use Rattle.frame_picture.specs.declared.kinds.TheConstants.{ALL}
use Rattle.frame_picture.specs.Tones.{not_held}
use Rattle.picture_svg.specs.declared.svg.TheConstants.{LEFT}
use Rattle.picture_svg.specs.Cells.{group_begin, AreKindPaths, AreRows, IsTonePath}
use Rattle.picture_svg.specs.Texts.{parts_text}
use Rattle.picture_svg.proofs.CellLemmas.{begins, concat_push, kind_more, taken_kind}
use Rattle.picture_svg.proofs.JoinedTexts.{both, exactly, last_text}
use Rattle.picture_svg.proofs.svg.draw_rows.Goals as goal
use Rattle.picture_svg.proofs.svg.draw_rows.Goals.{in-Free, in-NotHeld+in_ok-draw_tone-in-NotHeld, in_default+in_ok-draw_shades-in_default}

pub loop-kind-init : goal.loop-kind-init
loop-kind-init g c =
    let begin : List ℕ = group_begin (length c.args.columns.now) c.args.grid.rows c.args.foot in
    let first = exactly (g.W.Write.contents c.args.out.now) (g.W.Write.contents c.writeln.new.self)
    (codes "<g class=\"cells\" transform=\"translate(" ++ (decimal LEFT ++ (codes " " ++ (decimal c.args.foot ++ (codes ") scale("
    ++ (parts_text c.column_width.result.hundred_millionths ++ (codes " -" ++ (decimal c.row_height.result ++ codes ")\">\n"))))))))
    c.in_ok-writeln.ensures.bytes in
    record {
      text = first.text;
      appended = first.appended;
      is = (
        [],
        tt,
        first.is ∙ begins (length c.args.columns.now) c.args.grid.rows c.args.foot c.column_width.result.hundred_millionths c.row_height.result
            c.column_width.ensures c.row_height.ensures ∙ sym (append-nil begin),
      );
    }

pub loop-kind-preserved : goal.loop-kind-preserved
loop-kind-preserved g c =
    let i : ℕ = c.loop-kind.kind-index in
    let less : i < 6 = omega arith in
    let begin : List ℕ = group_begin (length c.args.columns.now) c.args.grid.rows c.args.foot in
    let before = c.loop-kind.invariant in
    elim c.match-kind.branch [
      | in-Free w ↦
          let kind : get_or ALL i FrameKind.NotHeld ≡ FrameKind.Free = get_or_default ALL i FrameKind.NotHeld _ less ∙ w.in-Free.is in
          rw w.out-is (record {
            text = before.text;
            appended = before.appended;
            is = (
              before.is.0 ++ [] ∷ [],
              kind_more c.args.columns.now c.args.grid i FrameKind.Free before.is.0 [] less kind before.is.1 refl,
              before.is.2 ∙ ap (λ t. begin ++ t) (sym (append-nil (concat before.is.0)) ∙ concat_push before.is.0 []),
            );
          })
      | in-NotHeld+in_ok-draw_tone-in-NotHeld w ↦
          let kind : get_or ALL i FrameKind.NotHeld ≡ FrameKind.NotHeld = get_or_default ALL i FrameKind.NotHeld _ less ∙ w.in-NotHeld.is in
          rw w.out-is (both
          (λ text. (paths : List (List ℕ)) × AllZip (AreKindPaths c.args.columns.now c.args.grid) (take (i + 1) ALL) paths × (text ≡ begin ++ concat paths))
          before w.in_ok-draw_tone-in-NotHeld.ensures
          (λ x y are here. (
            are.0 ++ y ∷ [],
            kind_more c.args.columns.now c.args.grid i FrameKind.NotHeld are.0 y less kind are.1
                (subst (λ rows. IsTonePath c.args.columns.now rows not_held [] y) c.min-rows.ensures here),
            ap (λ t. t ++ y) are.2 ∙ append_assoc begin (concat are.0) y ∙ ap (λ t. begin ++ t) (concat_push are.0 y),
          )))
      | in_default+in_ok-draw_shades-in_default w ↦
          let kind : FrameKind = get_or ALL i FrameKind.NotHeld in
          rw w.out-is (both
          (λ text. (paths : List (List ℕ)) × AllZip (AreKindPaths c.args.columns.now c.args.grid) (take (i + 1) ALL) paths × (text ≡ begin ++ concat paths))
          before w.in_ok-draw_shades-in_default.ensures
          (λ x y are here. (
            are.0 ++ y ∷ [],
            kind_more c.args.columns.now c.args.grid i _ are.0 y less (get_or_default ALL i FrameKind.NotHeld _ less) are.1
                (taken_kind c.args.columns.now c.args.grid _ y w.in_default.not-Free w.in_default.not-NotHeld here),
            ap (λ t. t ++ y) are.2 ∙ append_assoc begin (concat are.0) y ∙ ap (λ t. begin ++ t) (concat_push are.0 y),
          )))
    ]

pub returns : goal.returns
returns g c =
    last_text (g.W.Write.contents c.write_all.new.self) c.write_all.result (codes "</g>\n") (AreRows c.args.columns.now c.args.grid c.args.foot)
    c.loop-kind.invariant c.write_all.ensures.bytes
    (λ x are. record { paths = are.0; each = search rules; whole = ap (λ t. t ++ codes "</g>\n") are.2 })
