use Rattle.std.proofs.Common.{◌≡◌, Some, None, sym, ◌∙◌, subst, ⊎_elim, arith}
use Rattle.std.proofs.lemmas.Bool.{cases_lt}
use Rattle.slab_tables.specs.Content.{cache_at}
use Rattle.slab_core.proofs.ReturnEmptySlabs.{giving_none, giving_all, still_apart, none_any, no_cache, below_same, below_next, below_none}
use Rattle.slab_core.proofs.Slabs.give_back_all.Goals as goal
use Rattle.slab_core.proofs.Slabs.give_back_all.Goals.{in-Some, in_default}

pub loop-c-init : goal.loop-c-init
loop-c-init c = record {
  giving = giving_none c.requires.agree c.laws_with.ensures.parts.slabs;
  lists = λ d less. absurd (omega arith);
}

pub give_back_empty-requires-clause-cache : goal.give_back_empty-requires-clause-cache
give_back_empty-requires-clause-cache c =
    subst (λ s. cache_at s c.args.t c.loop-c.c ≡ Some c.in-Some.kept) c.self-in-loop-c.view_is
    (sym c.cache.ensures ∙ sym c.copied.ensures ∙ c.in-Some.is)

pub loop-c-preserved : goal.loop-c-preserved
loop-c-preserved c = elim c.match-copied.branch [
  | in-Some w ↦
      below_same w.space-is w.buddy-is w.self-is
      (below_next c.laws_with.ensures.steady c.loop-c.invariant
      w.give_back_empty.ensures.returned w.give_back_empty.ensures.spares w.give_back_empty.ensures.agree w.give_back_empty.ensures.tables
      w.give_back_empty.ensures.empty w.give_back_empty.ensures.lists)
  | in_default w ↦
      below_same w.space-is w.buddy-is w.self-is
      (below_none c.loop-c.invariant
      (omega (arith, c.loop-c-test.true, c.caches_below-c-end.ensures.few))
      (subst (λ s. cache_at s c.args.t c.loop-c.c ≡ None) c.self-in-loop-c.view_is
      (sym c.cache.ensures ∙ sym c.copied.ensures ∙ w.in_default.is)))
]

pub returns-clause-returned : goal.returns-clause-returned
returns-clause-returned c =
    let g = c.loop-c.invariant.giving in
    giving_all c.laws_with.ensures.steady g
    (none_any c.args.t g.tables g.agree (still_apart c.laws_with.ensures.steady g c.laws_with.ensures.parts.space.apart)
    (λ d less. ⊎_elim (c.loop-c.invariant.lists d)
    (λ from. no_cache c.loop-c.self c.args.t d g.tables less (g.returned.caches d ∙ subst (λ s. cache_at s c.args.t d ≡ None) c.self.view_is
    (c.caches_below-c-end.ensures.none d (omega (arith, from, c.loop-c-test.false))))) (cases_lt d c.loop-c.c)))
