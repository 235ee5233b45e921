use Rattle.std.proofs.Common.{◌≡◌, sym, ◌∙◌}
use Rattle.model_core.specs.declared.refusals.TakeBackRefusal.{TakeBackRefusal}
use Rattle.machine_changes.proofs.Lookups.{some_same}
use Rattle.kernel_core.proofs.CallEffects.{opened, known}
use Rattle.kernel_core.proofs.TakingBack.{IsIdle, take_without_slot, take_busy, changes, does_taken, steps_taken, take_without_tenant, take_refused}
use Rattle.kernel_core.proofs.kernel.Kernel.take_back.Goals as goal
use Rattle.kernel_core.proofs.kernel.Kernel.take_back.Goals.{In-Ok-take_back}

pub returns-in_default-clause-steps : goal.returns-in_default-clause-steps
returns-in_default-clause-steps c = λ agree. take_without_tenant _ c.args.tenant c.args.slot c.in_default.ensures

pub returns-in_default-machine_of-clause-steps : goal.returns-in_default-machine_of-clause-steps
returns-in_default-machine_of-clause-steps c = λ agree. rw (← c.self.view_is)
    (take_refused _ c.in-Some.t c.args.tenant c.args.slot TakeBackRefusal.NoSlot c.in-Some.ensures.0 (known _ _ _ _ c.in-Some.t c.self.view_is c.in-Some.ensures.1)
    (take_without_slot _ c.in-Some.t c.args.slot (sym c.in_default-machine_of.ensures.value)))

pub returns-in_default-drop_slot-clause-steps : goal.returns-in_default-drop_slot-clause-steps
returns-in_default-drop_slot-clause-steps c = λ agree.
    let held = opened _ _ _ _ c.self.view_is c.laws.ensures.together in
    let known = known _ _ _ _ c.in-Some.t c.self.view_is c.in-Some.ensures.1 in
    rw (c.in_default-drop_slot.ensures.busy.1, ← c.self.view_is)
    (take_refused _ c.in-Some.t c.args.tenant c.args.slot TakeBackRefusal.SlotBusy c.in-Some.ensures.0 known
    (take_busy _ _ _ c.in-Some.t c.args.slot c.in-Some-machine_of.superblock held known (sym c.in-Some-machine_of.ensures.value) c.in_default-drop_slot.ensures.busy.0))

-- the superblock that the memory's `take_back` returned is the one that was in the slot
same : (c : In-Ok-take_back) → c.in-Ok-take_back.field-0 ≡ c.in-Some-machine_of.superblock
same c = some_same (sym c.in-Ok-take_back.ensures.superblock ∙ sym c.in-Some-machine_of.ensures.value)

idle : (c : In-Ok-take_back) → IsIdle c.self.inside.space c.self.inside.buddy c.self.inside.slabs c.in-Some.t c.args.slot c.in-Some-machine_of.superblock
idle c = record {
  together = opened _ _ _ _ c.self.view_is c.laws.ensures.together;
  tenant = known _ _ _ _ c.in-Some.t c.self.view_is c.in-Some.ensures.1;
  here = sym c.in-Some-machine_of.ensures.value;
  below = c.in-Some-machine_of.ensures.below;
  idle = c.in-Ok.ensures.done.0;
}

pub invariant_of-self-2 : goal.invariant_of-self-2
invariant_of-self-2 c =
    rw (c.in-Ok.ensures.done.1, c.in-Ok-take_back.ensures.ok, same c) (changes _ _ _ c.in-Some.t c.args.slot c.in-Some-machine_of.superblock (idle c)).agree

pub returns-clause-steps : goal.returns-clause-steps
returns-clause-steps c = rw (c.in-Ok.ensures.done.1, c.in-Ok-take_back.ensures.ok, same c, ← c.self.view_is) (λ agree.
    steps_taken _ _ c.in-Some.t c.args.tenant c.args.slot c.in-Some-machine_of.superblock c.in-Some.ensures.0 (idle c).tenant agree (idle c).here
    (does_taken _ _ _ c.in-Some.t c.args.slot c.in-Some-machine_of.superblock (idle c)))
