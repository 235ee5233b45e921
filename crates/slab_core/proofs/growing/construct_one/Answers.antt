use Rattle.std.proofs.Common.{ℕ, ◌+◌, ◌*◌, ap, refl, arith}
use Rattle.space_core.proofs.PlacesEnd.{range_end}
use Rattle.slab_core.proofs.growing.construct_one.Goals as goal
use Rattle.slab_core.proofs.ConstructedObjects.{one_more, object_held}

pub fill-requires-clause-in_reach : goal.fill-requires-clause-in_reach
fill-requires-clause-in_reach c =
    object_held c.args.cache.kept.now c.args.first c.args.colour c.requires.layout c.requires.colour c.args.space.now c.args.cache.tenant c.args.i
    (4096 * c.args.first + c.offset.result) _ c.laws.ensures.facts.some c.requires.in_reach c.requires.object
    (ap (λ n. 4096 * c.args.first + n) c.offset.ensures) refl

pub returns : goal.returns
returns c = λ before built.
    let place : ℕ = 4096 * c.args.first + c.offset.result in
    one_more c.args.cache.kept.now c.args.first c.args.colour c.requires.layout c.requires.colour before c.args.space.now c.fill.new.space
    c.args.cache.tenant c.args.i place (ap (λ n. 4096 * c.args.first + n) c.offset.ensures) c.laws.ensures
    (object_held c.args.cache.kept.now c.args.first c.args.colour c.requires.layout c.requires.colour c.args.space.now c.args.cache.tenant c.args.i
    place _ c.laws.ensures.facts.some c.requires.in_reach c.requires.object
    (ap (λ n. 4096 * c.args.first + n) c.offset.ensures) refl)
    c.requires.object c.fill.ensures built

-- the object ends at or below 2 ^ 32
pub overflow_add-place : goal.overflow_add-place
overflow_add-place c =
    let home =
    object_held c.args.cache.kept.now c.args.first c.args.colour c.requires.layout c.requires.colour c.args.space.now c.args.cache.tenant c.args.i
    (4096 * c.args.first + c.offset.result) c.args.cache.kept.now.layout.size c.laws.ensures.facts.some c.requires.in_reach c.requires.object
    (ap (λ n. 4096 * c.args.first + n) c.offset.ensures) refl in
    omega (arith, range_end c.laws.ensures.facts c.args.cache.tenant (4096 * c.args.first + c.offset.result) c.args.cache.kept.now.layout.size home)
