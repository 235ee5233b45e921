use Rattle.std.proofs.Common.{◌≡◌, ℕ, ◌+◌, ◌-◌, ◌^◌, min, max, ap, ◌∙◌, subst, arith}
use Rattle.std.specs.Prelude.{slice_index}
use Rattle.shadow_memory.specs.Left.{Left, left_at}
use Rattle.shadow_memory.specs.Inside.{AreSlots, AreStepped, within, removed_of}
use Rattle.shadow_memory.proofs.StepsByPlace.{becomes, stepped_twice}
use Rattle.shadow_memory.proofs.ReplyChanges.{near_removed, object_none, not_beside, elsewhere, taken_twice}
use Rattle.shadow_memory.proofs.left.ShadowMemory.take.Goals as goal

pub change-requires : goal.change-requires
change-requires c = near_removed (elsewhere c.from-own.result)

pub change-requires-2 : goal.change-requires-2
change-requires-2 c = near_removed (not_beside c.args.number c.args.first c.args.size)

pub returns : goal.returns
returns c = λ cache is_number is_size is_slab.
    let old = c.args.self.now in
    let are = subst (λ (l : Left). AreSlots l.order l.slots c.self.inside.reach) c.self.view_is c.self.invariant.1 in
    let after = subst (λ (o : ℕ). AreStepped o (within c.max.result c.min.result (removed_of (not_beside c.args.number c.args.first c.args.size)))
    c.change.new.self.slots c.change-2.new.self.slots) c.change.ensures.order c.change-2.ensures.slots in
    let low : c.max.result ≡ max c.first_byte-begin.result (c.args.first - c.args.size) = c.max.ensures
    ∙ ap (λ (n : ℕ). max c.first_byte-begin.result n) (c.from-low.ensures ∙ c.saturating_sub.ensures) in
    let first = subst (λ (n : ℕ). AreStepped old.order (within c.first_byte-begin.result c.end_byte-end.result (removed_of (elsewhere n))) old.slots c.change.new.self.slots)
    c.from-own.ensures c.change.ensures.slots in
    let far : c.from.result + c.from-2.result + c.reach_of.result ≡ c.args.first + c.args.size + slice_index c.self.inside.reach c.args.number =
    omega (arith, c.from.ensures, c.from-2.ensures, c.reach_of.ensures ∙ ap (slice_index c.self.inside.reach) c.from-own.ensures) in
    let high : c.min.result ≡ min c.end_byte-end.result (min (c.args.first + c.args.size + slice_index c.self.inside.reach c.args.number) (2 ^ 64 - 1)) =
    c.min.ensures ∙ ap (λ (n : ℕ). min c.end_byte-end.result n) (c.saturating_add-high.ensures ∙ ap (λ (n : ℕ). min n (2 ^ 64 - 1)) far) in
    becomes old c.change-2.new.self _ _ (c.change-2.ensures.order ∙ c.change.ensures.order)
    (stepped_twice old.order _ _ old.slots c.change.new.self.slots c.change-2.new.self.slots first after)
    (λ place small. taken_twice c.self.inside.reach c.args.number c.args.first c.args.size c.args.slab.now c.first_byte-begin.result
    c.end_byte-end.result c.max.result c.min.result c.first_byte-begin.ensures.value c.end_byte-end.ensures.value low high cache is_number is_size is_slab
    place (left_at old) small (are.near place))
    (λ place off. object_none c.args.first cache place (left_at old))
