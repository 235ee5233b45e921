use Rattle.std.proofs.Common.{◌≡◌, ◌^◌, length, ap, sym, ◌∙◌, subst, arith}
use Rattle.klist_core.specs.Places.{place_at}
use Rattle.slab_tables.specs.Content.{Content}
use Rattle.slab_tables.proofs.SlabsMoved.{IsStep, step, frames_are, apart, moving_none, moving_more, moving_all, to_stays}
use Rattle.slab_tables.proofs.tables.Tables.move_slot.Goals as goal
use Rattle.slab_tables.proofs.tables.Tables.move_slot.Goals.{After-machine_frame_at-in-loop-i}

next : (c : After-machine_frame_at-in-loop-i) → IsStep c.args.self.now c.loop-i.self c.args.from c.args.to c.loop-i.i c.machine_frame_at.result c.machine_frame_at-in-loop-i.result
next c =
    let same = ap (λ (s : Content). s.top) c.self.view_is in
    step c.args.self.now c.loop-i.self c.args.from c.args.to c.loop-i.i c.self.inside.order c.machine_frame_at.result c.machine_frame_at-in-loop-i.result same
    (omega (arith, same, c.self.invariant.slabs.order)) c.loop-i-test.true c.machine_frame_at.ensures c.machine_frame_at-in-loop-i.ensures c.requires.from c.requires.to c.loop-i.invariant.machine_frames

pub loop-i-init : goal.loop-i-init
loop-i-init c = moving_none c.args.self.now c.args.from c.args.to (subst (λ (s : Content). length s.kept ≡ length s.lists.places) c.self.view_is c.self.invariant.slabs.paired)

pub move_slab-requires-clause-from : goal.move_slab-requires-clause-from
move_slab-requires-clause-from c = let n = next c in omega (arith, n.from_is, n.from_lt)

pub move_slab-requires-clause-to : goal.move_slab-requires-clause-to
move_slab-requires-clause-to c = let n = next c in omega (arith, n.to_is, n.to_lt)

pub move_slab-requires-clause-apart : goal.move_slab-requires-clause-apart
move_slab-requires-clause-apart c = λ e.
    let n = next c in
    apart (2 ^ c.args.self.now.top) c.args.from c.args.to c.loop-i.i c.loop-i.i c.requires.apart n.lt n.lt (sym n.from_is ∙ (e ∙ n.to_is))

pub move_slab-requires-clause-free : goal.move_slab-requires-clause-free
move_slab-requires-clause-free c =
    let n = next c in
    ap (place_at c.loop-i.self.lists.places) n.to_is
    ∙ (to_stays c.args.self.now c.loop-i.self c.args.from c.args.to c.loop-i.i c.requires.apart n.lt c.loop-i.invariant ∙ c.requires.free c.loop-i.i n.lt)

pub loop-i-preserved : goal.loop-i-preserved
loop-i-preserved c =
    let n = next (goal.at.loop-i-preserved c).After-machine_frame_at-in-loop-i in
    let free = to_stays c.args.self.now c.loop-i.self c.args.from c.args.to c.loop-i.i c.requires.apart n.lt c.loop-i.invariant ∙ c.requires.free c.loop-i.i n.lt in
    rw (c.move_slab.ensures, n.from_is, n.to_is)
    (moving_more c.args.self.now c.loop-i.self c.args.from c.args.to c.loop-i.i c.requires.apart n.lt c.loop-i.invariant n.from_lt n.to_lt free)

pub returns : goal.returns
returns c =
    let same = ap (λ (s : Content). s.top) c.self.view_is in
    let frames = frames_are c.self.inside.order c.args.self.now.top same (omega (arith, same, c.self.invariant.slabs.order)) in
    moving_all c.args.self.now c.loop-i.self c.args.from c.args.to c.loop-i.i (omega (arith, frames)) c.loop-i.invariant
