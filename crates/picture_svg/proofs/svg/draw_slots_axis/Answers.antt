use Rattle.std.specs.Prelude.{⊤}
use Rattle.picture_svg.proofs.JoinedTexts.{last_texts, more}
use Rattle.picture_svg.proofs.svg.draw_slots_axis.Goals as goal
use Rattle.picture_svg.proofs.svg.draw_slots_axis.Goals.{in-Some+in_ok-writeln-2, in_default}

pub loop-mark-preserved : goal.loop-mark-preserved
loop-mark-preserved g c =
    elim c.match-slot_start.branch [
      | in-Some+in_ok-writeln-2 w ↦
          rw w.out-is (more (g.W.Write.contents w.writeln-in-Some.new.self) _ c.loop-mark.invariant w.in_ok-writeln-2.ensures.bytes)
      | in_default w ↦ rw w.out-is c.loop-mark.invariant
    ]

pub returns : goal.returns
returns g c =
    last_texts (g.W.Write.contents c.draw_slot_ticks.new.out) c.draw_slot_ticks.result (λ _. ⊤) (λ _. ⊤) c.loop-mark.invariant c.draw_slot_ticks.ensures
    (λ _ _ _ _. tt)
