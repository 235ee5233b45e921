use Rattle.std.proofs.Common.{◌==◌, not, map, sym, subst}
use Rattle.model_core.proofs.Lists.{filter_rises}
use Rattle.model_core.specs.WellFormed.{RisesFrom}
use Rattle.promise_core.specs.Holdings.{KnownCache}
use Rattle.known_holdings.proofs.RisingKeys.{rising_from}
use Rattle.known_holdings.proofs.held.Held.destroy.Goals as goal

pub returns : goal.returns
returns c = rw (c.remove.ensures.value, ← c.self.view_is)

pub invariant_of-self : goal.invariant_of-self
invariant_of-self c = (
  subst (λ xs. RisesFrom 0 (map (λ (x : KnownCache). x.number) xs)) (sym c.remove.ensures.value)
      (filter_rises (λ (x : KnownCache). x.number) (λ (x : KnownCache). not (x.number == c.args.number)) 0
      c.self.inside.caches.items c.self.invariant.0),
  c.self.invariant.1,
  c.self.invariant.2,
)

pub remove-requires : goal.remove-requires
remove-requires c = rising_from (λ (x : KnownCache). x.number) 0 c.self.inside.caches.items c.self.invariant.0
