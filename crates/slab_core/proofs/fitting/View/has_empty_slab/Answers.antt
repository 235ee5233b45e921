use Rattle.std.proofs.Common.{refl, ⊎_elim, arith}
use Rattle.std.proofs.lemmas.Bool.{cases_lt}
use Rattle.slab_core.proofs.ReturnEmptySlabs.{no_cache}
use Rattle.slab_core.proofs.fitting.View.has_empty_slab.Goals as goal

pub returns : goal.returns
returns c = (
  λ e d less. ⊎_elim (c.loop-c.invariant d)
      (λ from. no_cache c.args.self.tables.now c.args.self.tenant d c.laws.ensures.slabs less (c.caches_below-c-end.ensures.none d (omega (arith, from, c.loop-c-test.false))))
      (cases_lt d c.loop-c.c),
  λ all. refl,
)
