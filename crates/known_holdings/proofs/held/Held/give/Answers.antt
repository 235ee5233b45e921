use Rattle.std.proofs.Common.{◌≡◌, ◌==◌, not, filter, map, Some, None, sym, ap, ◌∙◌, subst}
use Rattle.std.proofs.Math.Seq.{map-set_same}
use Rattle.std.specs.Prelude.{position, slice_set, if◌then◌else◌}
use Rattle.model_core.specs.WellFormed.{RisesFrom}
use Rattle.promise_core.specs.Holdings.{KnownCache}
use Rattle.known_holdings.proofs.CachesByNumber.{changed_at, changed_none, none_of}
use Rattle.known_holdings.proofs.held.Held.give.Goals as goal

pub invariant_of-self : goal.invariant_of-self
invariant_of-self c =
    let caches = c.self.inside.caches.items in
    let old = c.index_mut.result.now in
    let same = ap (λ (x : KnownCache). x.number) c.give.ensures ∙ ap (λ (x : KnownCache). x.number) c.index_mut.ensures.value in (
      subst (RisesFrom 0)
          (sym (map-set_same (λ (x : KnownCache). x.number) caches c.in-Some.i c.give.new.self old same))
          c.self.invariant.0,
      c.self.invariant.1,
      c.self.invariant.2,
    )

pub returns-in-Some : goal.returns-in-Some
returns-in-Some c =
    let caches = c.self.inside.caches.items in
    let change = λ (x : KnownCache). record x { live = filter (λ p. not (p == c.args.place)) x.live } in
    let is : position (λ (x : KnownCache). x.number == c.args.number) caches ≡ Some c.in-Some.i =
    (λ j. position (λ (x : KnownCache). x.number == c.args.number) (sym c.deref.ensures.value j)) ∙ sym c.in-Some.ensures.value in
    let e : slice_set caches c.in-Some.i c.give.new.self
    ≡ map {B = KnownCache} (λ (x : KnownCache). if x.number == c.args.number then change x else x) caches =
    ap (λ x. slice_set caches c.in-Some.i x) (c.give.ensures ∙ ap change c.index_mut.ensures.value)
    ∙ sym (changed_at (λ (x : KnownCache). x.number) c.args.number c.in-Some.i change c.index_mut.result.now caches
    c.self.invariant.0 is) in
    rw (e, ← c.self.view_is)

pub returns-in_default : goal.returns-in_default
returns-in_default c =
    let caches = c.self.inside.caches.items in
    let change = λ (x : KnownCache). record x { live = filter (λ p. not (p == c.args.place)) x.live } in
    let none : position (λ (x : KnownCache). x.number == c.args.number) caches ≡ None =
    (λ j. position (λ (x : KnownCache). x.number == c.args.number) (sym c.deref.ensures.value j))
    ∙ (sym c.index_of_cache.ensures.value ∙ none_of c.index_of_cache.result c.in_default.not-Some) in
    let e : map {B = KnownCache} (λ (x : KnownCache). if x.number == c.args.number then change x else x) caches ≡ caches =
    changed_none (λ (x : KnownCache). x.number) c.args.number change caches none in
    rw (← c.self.view_is, e)
