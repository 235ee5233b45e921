use Rattle.std.proofs.Common.{ℕ, ◌+◌, ◌++◌, List, flat_map, ap, sym, ◌∙◌}
use Rattle.std.specs.List.{range_with_len}
use Rattle.picture_svg.specs.Marks.{turn_text}
use Rattle.picture_svg.proofs.MarkLemmas.{a_turn, no_turn}
use Rattle.picture_svg.proofs.JoinedTexts.{as_text, texts_more, texts_same, then_exactly}
use Rattle.picture_svg.proofs.svg.draw_turns.Goals as goal
use Rattle.picture_svg.proofs.svg.draw_turns.Goals.{in-Some+in_ok-write, in_default}

pub loop-at-preserved : goal.loop-at-preserved
loop-at-preserved g c =
    let column : ℕ = c.loop-at.at-counter in
    let turn : ℕ → List ℕ = turn_text c.args.columns.now c.args.t c.args.order in
    let turns : List ℕ = flat_map turn (range_with_len 0 column) in
    elim c.match-turn_at.branch [
      | in-Some+in_ok-write w ↦
          rw w.out-is (as_text (flat_map turn (range_with_len 0 (column + 1)))
          (then_exactly (g.W.Write.contents w.write.new.self) _ c.loop-at.invariant w.in_ok-write.ensures.bytes)
          (ap (λ t. turns ++ t) (a_turn c.args.columns.now c.args.t c.args.order column w.in-Some.frames w.in-Some.ensures.0 w.in-Some.ensures.1)
          ∙ sym (texts_more turn column)))
      | in_default w ↦
          rw w.out-is (as_text (flat_map turn (range_with_len 0 (column + 1))) c.loop-at.invariant
          (texts_same turn column (no_turn c.args.columns.now c.args.t c.args.order column w.in_default.ensures)))
    ]
