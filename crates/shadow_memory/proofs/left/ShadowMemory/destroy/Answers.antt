use Rattle.shadow_memory.specs.Left.{left_at}
use Rattle.std.proofs.Common.{eqb}
use Rattle.promise_core.specs.Bytes.{is_object}
use Rattle.shadow_memory.proofs.StepsByPlace.{becomes}
use Rattle.shadow_memory.proofs.ReplyChanges.{near_removed, without_none, removed_all}
use Rattle.shadow_memory.proofs.left.ShadowMemory.destroy.Goals as goal

pub change-requires : goal.change-requires
change-requires c = near_removed (is_object (λ n p. eqb n c.args.number))

pub returns : goal.returns
returns c = becomes c.args.self.now c.change.new.self _ _ c.change.ensures.order c.change.ensures.slots
    (λ place lt. removed_all (is_object (λ n p. eqb n c.args.number)) place (left_at c.args.self.now) lt)
    (λ place off. without_none (λ place. is_object (λ n p. eqb n c.args.number)) place (left_at c.args.self.now))
