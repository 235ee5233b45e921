use Rattle.std.proofs.Common.{ℕ, ap, ◌∙◌, subst}
use Rattle.std.proofs.Common.{◌+◌, ◌-◌, ◌^◌, min}
use Rattle.promise_core.specs.Bytes.{Holder, is_same}
use Rattle.shadow_memory.specs.Left.{Left}
use Rattle.shadow_memory.specs.Inside.{AreSlots}
use Rattle.shadow_memory.proofs.ReplyChanges.{near_doubted, given}
use Rattle.shadow_memory.proofs.left.ShadowMemory.give.Goals as goal

pub change-requires : goal.change-requires
change-requires c = near_doubted (is_same (Holder.Object c.args.number c.args.first))

pub returns : goal.returns
returns c =
    let are = subst (λ (l : Left). AreSlots l.order l.slots c.self.inside.reach) c.self.view_is c.self.invariant.1 in
    given c.args.self.now c.change.new.self c.self.inside.reach c.args.number c.args.first c.from-begin.result c.saturating_add-end.result are c.from-begin.ensures
    (c.saturating_add-end.ensures ∙ ap (λ (n : ℕ). min (c.from-begin.result + n) (2 ^ 64 - 1)) c.reach_of.ensures) c.change.ensures.order c.change.ensures.slots
