use Rattle.std.proofs.Common.{◌≡◌, ◌==◌, map, None, sym, ap, ◌∙◌, subst, arith}
use Rattle.std.specs.Prelude.{find}
use Rattle.model_core.proofs.Lists.{put_rises}
use Rattle.model_core.specs.WellFormed.{RisesFrom}
use Rattle.promise_core.specs.Holdings.{KnownCache, Holdings, known_cache}
use Rattle.known_holdings.proofs.CachesByNumber.{all_other}
use Rattle.known_holdings.proofs.RisingKeys.{rising_from}
use Rattle.known_holdings.proofs.held.Held.make_cache.Goals as goal

pub put-requires : goal.put-requires
put-requires c = rising_from (λ (x : KnownCache). x.number) 0 c.self.inside.caches.items c.self.invariant.0

pub returns-clause-made : goal.returns-clause-made
returns-clause-made c = rw (c.in_ok-put.ensures.put, ← c.self.view_is)

pub invariant_of-self-2 : goal.invariant_of-self-2
invariant_of-self-2 c =
    let caches = c.self.inside.caches.items in
    let none : find (λ (x : KnownCache). x.number == c.args.cache.number) caches ≡ None =
    ap (λ (h : Holdings). known_cache h c.args.cache.number) c.self.view_is ∙ c.requires in (
      subst (λ xs. RisesFrom 0 (map (λ (x : KnownCache). x.number) xs)) (sym c.in_ok-put.ensures.put)
          (put_rises (λ (x : KnownCache). x.number) 0 c.args.cache caches c.self.invariant.0 (omega arith)
          (all_other (λ (x : KnownCache). x.number) c.args.cache.number caches none)),
      c.self.invariant.1,
      c.self.invariant.2,
    )
