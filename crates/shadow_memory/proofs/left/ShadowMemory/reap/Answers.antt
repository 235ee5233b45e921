use Rattle.shadow_memory.specs.Left.{left_at}
use Rattle.promise_core.specs.Bytes.{is_object}
use Rattle.promise_core.specs.State.{is_in_no_slab}
use Rattle.shadow_memory.proofs.StepsByPlace.{becomes}
use Rattle.shadow_memory.proofs.ReplyChanges.{near_removed, without_none, removed_all}
use Rattle.shadow_memory.proofs.left.ShadowMemory.reap.Goals as goal

pub change-requires : goal.change-requires
change-requires c = near_removed (is_object (is_in_no_slab c.args.held.now))

pub returns : goal.returns
returns c = becomes c.args.self.now c.change.new.self _ _ c.change.ensures.order c.change.ensures.slots
    (λ place lt. removed_all (is_object (is_in_no_slab c.args.held.now)) place (left_at c.args.self.now) lt)
    (λ place off. without_none (λ place. is_object (is_in_no_slab c.args.held.now)) place (left_at c.args.self.now))
