use Rattle.std.proofs.Common.{◌≡◌, ℕ, ◌≤◌, None, map, length, sym, ap, ◌∙◌, subst, arith}
use Rattle.slab_tables.specs.Content.{cache_at}
use Rattle.model_core.specs.Machine.{Cache}
use Rattle.model_core.specs.Slabs.{cache_of}
use Rattle.model_core.specs.Reports.{row_of_cache}
use Rattle.slab_core.proofs.ReportAllCaches.{below, none_below, below_more, pushed, not_pushed, all_caches}
use Rattle.slab_core.proofs.Slabs.rows.Goals as goal
use Rattle.slab_core.proofs.Slabs.rows.Goals.{in-Some, in_default}

pub loop-c-init : goal.loop-c-init
loop-c-init c = (
  omega (arith, ap length c.new-rows.ensures),
  λ r b m a st h. c.new-rows.ensures ∙ ap (map row_of_cache) (sym (none_below (λ (x : Cache). x.number) 0 0 m.caches h.caches_rise (omega arith))),
)

pub loop-c-preserved : goal.loop-c-preserved
loop-c-preserved c = elim c.match-row.branch [
  | in-Some w ↦ (
    omega (arith, c.loop-c.invariant.0, w.push.ensures.len, ap (λ v. length v.items) w.rows-is),
    λ r b m a st h.
        ap (λ v. v.items) w.rows-is ∙ (w.push.ensures.items
        ∙ (pushed c.loop-c.rows.items w.in-Some.row (below (λ (x : Cache). x.number) c.loop-c.c m.caches) (cache_of m c.loop-c.c) (w.in-Some.ensures r b m a st h)
        (c.loop-c.invariant.1 r b m a st h)
        ∙ ap (map row_of_cache) (sym (below_more (λ (x : Cache). x.number) c.loop-c.c 0 m.caches h.caches_rise)))),
  )
  | in_default w ↦ (
    omega (arith, c.loop-c.invariant.0, ap (λ v. length v.items) w.rows-is),
    λ r b m a st h.
        ap (λ v. v.items) w.rows-is
        ∙ (not_pushed c.loop-c.rows.items (below (λ (x : Cache). x.number) c.loop-c.c m.caches) (cache_of m c.loop-c.c) (w.in_default.ensures r b m a st h)
        (c.loop-c.invariant.1 r b m a st h)
        ∙ ap (map row_of_cache) (sym (below_more (λ (x : Cache). x.number) c.loop-c.c 0 m.caches h.caches_rise))),
  )
]

pub returns : goal.returns
returns c = λ r b m a st h.
    let none : (d : ℕ) → c.loop-c.c ≤ d → cache_at c.args.self.now c.args.t d ≡ None =
    λ d from. subst (λ s. cache_at s c.args.t d ≡ None) c.self.view_is (c.caches_below-c-end.ensures.none d (omega (arith, from, c.loop-c-test.false, c.caches_below-c-end.ensures.few))) in
    c.loop-c.invariant.1 r b m a st h
    ∙ ap (map row_of_cache) (all_caches r b c.args.self.now c.args.t c.loop-c.c m none h)
