use Rattle.std.proofs.Common.{sym, ◌∙◌}
use Rattle.slab_core.proofs.growing.clear_record.Goals as goal
use Rattle.slab_core.proofs.ConstructedObjects.{record_held, begun, cleared}

pub zero-requires-clause-in_reach : goal.zero-requires-clause-in_reach
zero-requires-clause-in_reach c =
    record_held c.args.cache.kept.now c.args.first 0 c.args.space.now c.args.cache.tenant c.requires.laws.facts.some c.requires.in_reach

pub returns-then-in_page : goal.returns-then-in_page
returns-then-in_page c = λ colour.
    cleared c.args.cache.kept.now c.args.first colour c.args.space.now c.zero.new.self c.args.cache.tenant c.requires.laws
    (sym c.in_page.ensures ∙ c.if-in_page.true) (record_held c.args.cache.kept.now c.args.first colour c.args.space.now c.args.cache.tenant c.requires.laws.facts.some c.requires.in_reach)
    c.zero.ensures

pub returns-else-in_page : goal.returns-else-in_page
returns-else-in_page c = λ colour.
    begun c.args.cache.kept.now c.args.first colour c.args.space.now c.args.cache.tenant (sym c.in_page.ensures ∙ c.if-in_page.false)
