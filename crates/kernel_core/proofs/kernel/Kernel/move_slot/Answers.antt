use Rattle.std.proofs.Common.{Err, ap}
use Rattle.kernel_core.proofs.CallEffects.{opened, known}
use Rattle.kernel_core.proofs.Granting.{free_is_spare}
use Rattle.kernel_core.proofs.Moving.{IsMovable, changes, moves, steps_moved, move_without_tenant, move_without_slot, move_without_superblock}
use Rattle.kernel_core.proofs.kernel.Kernel.move_slot.Goals as goal

pub returns-in_default-clause-steps : goal.returns-in_default-clause-steps
returns-in_default-clause-steps c = λ agree. move_without_tenant _ c.args.tenant c.args.slot c.in_default.ensures

pub returns-in-Err-NoSlot-clause-steps : goal.returns-in-Err-NoSlot-clause-steps
returns-in-Err-NoSlot-clause-steps c = λ agree. rw (c.in-Err-NoSlot.ensures.err, ← c.self.view_is)
    (move_without_slot _ c.in-Some.t c.args.tenant c.args.slot c.in-Some.ensures.0 (known _ _ _ _ c.in-Some.t c.self.view_is c.in-Some.ensures.1)
    (c.in-Err-NoSlot.ensures.no_slot.0 (ap (λ x. Err x) c.in-Err-NoSlot.field-0-is)))

pub returns-in-Err-PoolEmpty-clause-steps : goal.returns-in-Err-PoolEmpty-clause-steps
returns-in-Err-PoolEmpty-clause-steps c = λ agree.
    let full = c.in-Err-PoolEmpty.ensures.pool_empty.0 (ap (λ x. Err x) c.in-Err-PoolEmpty.field-0-is) in
    rw (c.in-Err-PoolEmpty.ensures.err, ← c.self.view_is)
    (move_without_superblock _ c.in-Some.t c.args.tenant c.args.slot c.in-Some.ensures.0 (known _ _ _ _ c.in-Some.t c.self.view_is c.in-Some.ensures.1) full.0 full.1)

pub move_slot-requires-2-clause-unused : goal.move_slot-requires-2-clause-unused
move_slot-requires-2-clause-unused c =
    (free_is_spare c.self.inside.space c.self.inside.buddy c.self.inside.slabs c.in-Ok.moved.1
    (opened _ _ _ _ c.self.view_is c.laws.ensures.together) c.in-Ok.ensures.to).unused

pub move_slot-requires-3-clause-free : goal.move_slot-requires-3-clause-free
move_slot-requires-3-clause-free c =
    (free_is_spare c.self.inside.space c.self.inside.buddy c.self.inside.slabs c.in-Ok.moved.1
    (opened _ _ _ _ c.self.view_is c.laws.ensures.together) c.in-Ok.ensures.to).bare

movable : (c : goal.After-move_slot-3) → IsMovable c.self.inside.space c.self.inside.buddy c.self.inside.slabs c.move_slot-3.new.self c.in-Some.t c.args.slot c.in-Ok.moved.0 c.in-Ok.moved.1
movable c = record {
  together = opened _ _ _ _ c.self.view_is c.laws.ensures.together;
  tenant = known _ _ _ _ c.in-Some.t c.self.view_is c.in-Some.ensures.1;
  here = c.in-Ok.ensures.from;
  below = c.in-Ok.ensures.below.0;
  free = c.in-Ok.ensures.to;
  to_below = c.in-Ok.ensures.below.1;
  slabs = c.move_slot-3.ensures.moved;
}

pub invariant_of-self-2 : goal.invariant_of-self-2
invariant_of-self-2 c = rw (c.move_slot-2.ensures, c.in-Ok.ensures.ok) (changes _ _ _ _ c.in-Some.t c.args.slot c.in-Ok.moved.0 c.in-Ok.moved.1 (movable c)).agree

pub returns-clause-steps : goal.returns-clause-steps
returns-clause-steps c = rw (c.move_slot-2.ensures, c.in-Ok.ensures.ok, ← c.self.view_is) (λ agree.
    steps_moved _ _ c.in-Some.t c.args.tenant c.args.slot c.in-Ok.moved.1 c.in-Some.ensures.0 (movable c).tenant agree c.in-Ok.ensures.to
    (moves _ _ _ _ c.in-Some.t c.args.slot c.in-Ok.moved.0 c.in-Ok.moved.1 (movable c)))
