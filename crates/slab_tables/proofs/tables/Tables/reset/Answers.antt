use Rattle.std.proofs.Common.{◌+◌, sym, subst, arith}
use Rattle.slab_tables.specs.Content.{index_of_cache}
use Rattle.slab_tables.specs.Changes.{IsReset}
use Rattle.slab_tables.proofs.CachesCleared.{this, those_below, cleared_none, cleared_more, cleared_all, one_more}
use Rattle.slab_tables.proofs.tables.Tables.reset.Goals as goal

pub loop-number-init : goal.loop-number-init
loop-number-init c = cleared_none c.args.self.now c.args.t

pub clear-requires-clause-tenant : goal.clear-requires-clause-tenant
clear-requires-clause-tenant c = omega (arith, c.requires, c.loop-number.invariant.tenants)

pub loop-number-preserved : goal.loop-number-preserved
loop-number-preserved c =
    cleared_more c.args.self.now c.loop-number.self c.clear.new.self (those_below c.args.t c.loop-number.number) (this (index_of_cache c.args.t c.loop-number.number)) (those_below c.args.t (c.loop-number.number + 1))
    c.loop-number.invariant c.clear.ensures (one_more c.args.t c.loop-number.number (omega arith))

pub returns : goal.returns
returns c =
    subst (λ s. IsReset c.args.self.now s c.args.t) (sym c.self-2.view_is)
    (cleared_all c.args.self.now c.loop-number.self c.args.t c.loop-number.number (rw c.self.view_is at c.self.invariant.slabs)
    (λ d from. c.caches_below-number-end.ensures.none d (omega (arith, from, c.loop-number-test.false))) c.loop-number.invariant)
