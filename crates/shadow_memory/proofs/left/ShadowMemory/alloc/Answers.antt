use Rattle.shadow_memory.specs.Left.{left_at}
use Rattle.std.proofs.Common.{not, ◌&&◌}
use Rattle.model_core.specs.Machine.{in_block}
use Rattle.promise_core.specs.Bytes.{Holder, is_same}
use Rattle.shadow_memory.proofs.StepsByPlace.{becomes}
use Rattle.shadow_memory.proofs.ReplyChanges.{near_removed, without_none, removed_in}
use Rattle.shadow_memory.proofs.left.ShadowMemory.alloc.Goals as goal

pub change-requires : goal.change-requires
change-requires c = near_removed (λ holder. not (is_same Holder.Page holder))

pub returns : goal.returns
returns c = becomes c.args.self.now c.change.new.self _ _ c.change.ensures.order c.change.ensures.slots
    (λ place lt. removed_in c.args.block.now _ _ c.first_byte.ensures.value c.end_byte.ensures.value (λ holder. not (is_same Holder.Page holder)) place (left_at c.args.self.now))
    (λ place off. without_none (λ place holder. in_block place c.args.block.now && not (is_same Holder.Page holder)) place (left_at c.args.self.now))
