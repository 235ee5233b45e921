use Rattle.std.specs.Prelude.{⊤}
use Rattle.picture_svg.proofs.JoinedTexts.{last_text, more}
use Rattle.picture_svg.proofs.svg.draw_slot_ticks.Goals as goal
use Rattle.picture_svg.proofs.svg.draw_slot_ticks.Goals.{in-Some+in_ok-write, in_default}

pub loop-mark-preserved : goal.loop-mark-preserved
loop-mark-preserved g c =
    elim c.match-slot_start.branch [
      | in-Some+in_ok-write w ↦ rw w.out-is (more (g.W.Write.contents w.write.new.self) _ c.loop-mark.invariant w.in_ok-write.ensures.bytes)
      | in_default w ↦ rw w.out-is c.loop-mark.invariant
    ]

pub returns : goal.returns
returns g c =
    last_text (g.W.Write.contents c.write_all-2.new.self) c.write_all-2.result _ (λ _. ⊤) c.loop-mark.invariant c.write_all-2.ensures.bytes (λ _ _. tt)
