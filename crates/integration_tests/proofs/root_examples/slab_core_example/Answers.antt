use Rattle.std.proofs.Common.{arith}
use Rattle.kernel_core.proofs.Granting.{changes}
use Rattle.kernel_core.proofs.MadeKernels.{is_opened}
use Rattle.integration_tests.proofs.root_examples.slab_core_example.Goals as goal

pub take-requires-clause-agree : goal.take-requires-clause-agree
take-requires-clause-agree g c =
    let granted = c.in_ok-slot in
    c.create.ensures.agree c.grant.new.self c.add_slot.new.self (rw granted.ensures.ok (rw c.add_slot.ensures
    (changes c.in_ok-space.space c.in_ok-buddy.buddy c.in_ok-slabs.slabs 0 granted.slot granted.superblock (record {
      together = rw c.in_ok-space.ensures (rw c.in_ok-buddy.ensures (rw c.in_ok-slabs.ensures is_opened.kernel.together));
      tenant = rw c.in_ok-buddy.ensures (omega arith);
      free = granted.ensures.superblock;
      least = granted.ensures.slot;
      slot_below = granted.ensures.below.0;
      below = granted.ensures.below.1;
    })).agree))
