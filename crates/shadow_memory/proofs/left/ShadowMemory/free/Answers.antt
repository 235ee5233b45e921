use Rattle.shadow_memory.specs.Left.{left_at}
use Rattle.std.proofs.Common.{◌&&◌}
use Rattle.model_core.specs.Machine.{in_block}
use Rattle.promise_core.specs.Bytes.{Holder, is_same}
use Rattle.shadow_memory.proofs.StepsByPlace.{becomes}
use Rattle.shadow_memory.proofs.ReplyChanges.{near_doubted, doubted_none, doubted_in}
use Rattle.shadow_memory.proofs.left.ShadowMemory.free.Goals as goal

pub change-requires : goal.change-requires
change-requires c = near_doubted (is_same Holder.Page)

pub returns : goal.returns
returns c = becomes c.args.self.now c.change.new.self _ _ c.change.ensures.order c.change.ensures.slots
    (λ place lt. doubted_in c.args.block.now _ _ c.first_byte.ensures.value c.end_byte.ensures.value (is_same Holder.Page) place (left_at c.args.self.now))
    (λ place off. doubted_none (λ place holder. in_block place c.args.block.now && is_same Holder.Page holder) place (left_at c.args.self.now))
