use Rattle.kernel_core.proofs.CallEffects.{opened, known}
use Rattle.kernel_core.proofs.Granting.{IsGrantable, free_is_spare, changes, does_granted, steps_granted, grant_without_tenant, grant_without_superblock}
use Rattle.kernel_core.proofs.kernel.Kernel.grant.Goals as goal

grantable : (c : goal.After-add_slot) → IsGrantable c.self.inside.space c.self.inside.buddy c.self.inside.slabs c.in-Some.t c.in-Ok.slot c.in-Ok.superblock
grantable c = record {
  together = opened _ _ _ _ c.self.view_is c.laws.ensures.together;
  tenant = known _ _ _ _ c.in-Some.t c.self.view_is c.in-Some.ensures.1;
  free = c.in-Ok.ensures.superblock;
  least = c.in-Ok.ensures.slot;
  slot_below = c.in-Ok.ensures.below.0;
  below = c.in-Ok.ensures.below.1;
}

pub returns-in_default-clause-steps : goal.returns-in_default-clause-steps
returns-in_default-clause-steps c = λ agree. grant_without_tenant _ c.args.tenant c.in_default.ensures

pub returns-in_default-grant-clause-steps : goal.returns-in_default-grant-clause-steps
returns-in_default-grant-clause-steps c = λ agree. rw (c.in_default-grant.ensures.err, ← c.self.view_is)
    (grant_without_superblock _ c.in-Some.t c.args.tenant c.in-Some.ensures.0 (known _ _ _ _ c.in-Some.t c.self.view_is c.in-Some.ensures.1) c.in_default-grant.ensures.superblock)

pub add_slot-requires-clause-unused : goal.add_slot-requires-clause-unused
add_slot-requires-clause-unused c =
    (free_is_spare c.self.inside.space c.self.inside.buddy c.self.inside.slabs c.in-Ok.superblock
    (opened _ _ _ _ c.self.view_is c.laws.ensures.together) c.in-Ok.ensures.superblock).unused

pub invariant_of-self-2 : goal.invariant_of-self-2
invariant_of-self-2 c = rw (c.add_slot.ensures, c.in-Ok.ensures.ok) (changes _ _ _ c.in-Some.t c.in-Ok.slot c.in-Ok.superblock (grantable c)).agree

pub returns-clause-steps : goal.returns-clause-steps
returns-clause-steps c = rw (c.add_slot.ensures, c.in-Ok.ensures.ok, ← c.self.view_is) (λ agree.
    steps_granted _ _ c.in-Some.t c.args.tenant c.in-Ok.slot c.in-Ok.superblock c.in-Some.ensures.0 (grantable c).tenant agree c.in-Ok.ensures.superblock
    (does_granted _ _ _ c.in-Some.t c.in-Ok.slot c.in-Ok.superblock (grantable c)))
