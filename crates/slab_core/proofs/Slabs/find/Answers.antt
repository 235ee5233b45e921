use Rattle.std.proofs.Common.{sym, ◌∙◌}
use Rattle.slab_core.proofs.Slabs.find.Goals as goal

pub is_live_object-requires-clause-slab : goal.is_live_object-requires-clause-slab
is_live_object-requires-clause-slab c = c.in_ok-object.ensures.slab

pub is_live_object-requires-clause-index : goal.is_live_object-requires-clause-index
is_live_object-requires-clause-index c = c.in_ok-object.ensures.index

pub returns-in_err-object : goal.returns-in_err-object
returns-in_err-object c = rw c.from_residual.ensures c.in_err-object.ensures

pub returns-then-is_live_object : goal.returns-then-is_live_object
returns-then-is_live_object c =
    let o = c.in_ok-object.ensures in
    record { slab = o.slab; index = o.index; live = sym c.is_live_object.ensures ∙ c.if-is_live_object.true; begins = o.begins }

pub returns-else-is_live_object : goal.returns-else-is_live_object
returns-else-is_live_object c = c.in_ok-object.ensures.dead (sym c.is_live_object.ensures ∙ c.if-is_live_object.false)
