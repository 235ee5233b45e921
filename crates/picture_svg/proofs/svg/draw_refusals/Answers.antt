use Rattle.std.proofs.Common.{◌≡◌, ◌≢◌, ℕ, ◌+◌, ◌-◌, ◌++◌, List, codes, flat_map, length, ap, sym, ◌∙◌, append_assoc, append-nil, arith}
use Rattle.std.specs.List.{range_with_len}
use Rattle.frame_picture.specs.Stacks.{refused_before, refused_until}
use Rattle.picture_svg.specs.declared.svg.TheConstants.{LEFT}
use Rattle.picture_svg.specs.Marks.{middle_of, refusal_mark, refusals_begin, refusals_text}
use Rattle.picture_svg.specs.Sizes.{lower}
use Rattle.picture_svg.proofs.MarkLemmas.{a_mark, no_mark}
use Rattle.picture_svg.proofs.JoinedTexts.{exactly, last_exactly, renamed, texts_more, texts_same, then_exactly}
use Rattle.picture_svg.proofs.svg.draw_refusals.Goals as goal
use Rattle.picture_svg.proofs.svg.draw_refusals.Goals.{then-refused_in-gt0+in_ok-write, else-refused_in-gt0}

pub loop-at-init : goal.loop-at-init
unfolding refusals_begin
loop-at-init g c =
    renamed _ (simp (c.saturating_add-2.ensures, c.saturating_add.ensures, append_assoc, append-nil))
    (then_exactly (g.W.Write.contents c.write_all.new.self) _
    (exactly (g.W.Write.contents c.args.out.now) (g.W.Write.contents c.writeln.new.self) _ c.in_ok-writeln.ensures.bytes) c.in_ok-write_all.ensures.bytes)

pub loop-at-preserved : goal.loop-at-preserved
loop-at-preserved g c =
    let column : ℕ = c.loop-at.at in
    let mark : ℕ → List ℕ = refusal_mark c.args.columns.now c.args.t c.args.y in
    let begin : List ℕ = refusals_begin c.args.y c.args.gap in
    let marks : List ℕ = flat_map mark (range_with_len 0 column) in
    elim c.if-refused_in-gt0.branch [
      | then-refused_in-gt0+in_ok-write w ↦
          let some : refused_until c.args.columns.now c.args.t column - refused_before c.args.columns.now c.args.t column ≢ 0 =
          omega (arith, c.refused_in.ensures, w.if-refused_in-gt0.true) in
          let x : w.saturating_add-x.result ≡ lower LEFT (middle_of column (length c.args.columns.now)) =
          w.saturating_add-x.ensures ∙ ap (λ k. lower LEFT k) w.middle_of.ensures in
          rw w.out-is (renamed (begin ++ flat_map mark (range_with_len 0 (column + 1)))
          (ap (λ t. (begin ++ marks) ++ t) (a_mark c.args.columns.now c.args.t c.args.y column w.saturating_add-x.result some x)
          ∙ append_assoc begin marks (mark column) ∙ ap (λ t. begin ++ t) (sym (texts_more mark column)))
          (then_exactly (g.W.Write.contents w.write.new.self) _ c.loop-at.invariant w.in_ok-write.ensures.bytes))
      | else-refused_in-gt0 w ↦
          let none : refused_until c.args.columns.now c.args.t column - refused_before c.args.columns.now c.args.t column ≡ 0 =
          omega (arith, c.refused_in.ensures, w.if-refused_in-gt0.false) in
          rw w.out-is (renamed (begin ++ flat_map mark (range_with_len 0 (column + 1)))
          (ap (λ t. begin ++ t) (texts_same mark column (no_mark c.args.columns.now c.args.t c.args.y column none))) c.loop-at.invariant)
    ]

pub returns : goal.returns
unfolding refusals_text
returns g c =
    let mark : ℕ → List ℕ = refusal_mark c.args.columns.now c.args.t c.args.y in
    let begin : List ℕ = refusals_begin c.args.y c.args.gap in
    let all : c.loop-at.at ≡ length c.args.columns.now = omega arith in
    last_exactly (g.W.Write.contents c.write_all-2.new.self) c.write_all-2.result _
    (refusals_text c.args.columns.now c.args.t c.args.y c.args.gap) c.loop-at.invariant c.write_all-2.ensures.bytes
    (ap (λ n. (begin ++ flat_map mark (range_with_len 0 n)) ++ codes "\"/>\n") all
    ∙ append_assoc begin (flat_map mark (range_with_len 0 (length c.args.columns.now))) (codes "\"/>\n"))
