use Rattle.std.proofs.Common.{◌≡◌, ◌==◌, ℕ, map, Some, None, sym, ap, ◌∙◌, subst}
use Rattle.std.proofs.Math.Seq.{map-set_same}
use Rattle.std.specs.Prelude.{position, slice_set, if◌then◌else◌}
use Rattle.model_core.specs.Machine.{put_rising}
use Rattle.model_core.specs.WellFormed.{RisesFrom}
use Rattle.promise_core.specs.Holdings.{KnownCache, Holdings, with_live_places}
use Rattle.known_holdings.proofs.CachesByNumber.{changed_at, changed_none, number_stays}
use Rattle.std.proofs.lemmas.Result.{IfOk-weaker}
use Rattle.known_holdings.proofs.held.Held.take.Goals as goal

pub invariant_of-self : goal.invariant_of-self
invariant_of-self c =
    let caches = c.self.inside.caches.items in
    let old = c.index_mut.result.now in
    let same = number_stays c.take.result (put_rising (λ (p : ℕ). p) c.args.place) old c.take.new.self
    c.take.ensures.taken c.take.ensures.kept
    ∙ ap (λ (x : KnownCache). x.number) c.index_mut.ensures.value in (
      subst (RisesFrom 0)
          (sym (map-set_same (λ (x : KnownCache). x.number) caches c.in-Some.i c.take.new.self old same))
          c.self.invariant.0,
      c.self.invariant.1,
      c.self.invariant.2,
    )

pub returns-in-Some-clause-taken : goal.returns-in-Some-clause-taken
returns-in-Some-clause-taken c =
    let caches = c.self.inside.caches.items in
    let change = λ (x : KnownCache). record x { live = put_rising (λ (p : ℕ). p) c.args.place x.live } in
    let is : position (λ (x : KnownCache). x.number == c.args.number) caches ≡ Some c.in-Some.i =
    (λ j. position (λ (x : KnownCache). x.number == c.args.number) (sym c.deref.ensures.value j)) ∙ sym c.in-Some.ensures.value in
    let after : Holdings = record {
      slots = c.self.inside.slots.items;
      pages = c.self.inside.pages.items;
      caches = slice_set caches c.in-Some.i c.take.new.self;
    } in
    let goal_is : Unit {0} → Type 0 = λ _.
    after ≡ with_live_places c.args.number (put_rising (λ (p : ℕ). p) c.args.place) c.args.self.now in
    let made : (u : Unit {0}) → c.take.new.self ≡ change c.index_mut.result.now → goal_is u = λ u taken.
    (let e : slice_set caches c.in-Some.i c.take.new.self
    ≡ map {B = KnownCache} (λ (x : KnownCache). if x.number == c.args.number then change x else x) caches =
    ap (λ x. slice_set caches c.in-Some.i x) (taken ∙ ap change c.index_mut.ensures.value)
    ∙ sym (changed_at (λ (x : KnownCache). x.number) c.args.number c.in-Some.i change c.index_mut.result.now caches
    c.self.invariant.0 is) in
    rw (e, ← c.self.view_is)) in
    IfOk-weaker c.take.result (λ u. c.take.new.self ≡ change c.index_mut.result.now) goal_is made c.take.ensures.taken

pub returns-in-None-clause-taken : goal.returns-in-None-clause-taken
returns-in-None-clause-taken c =
    let caches = c.self.inside.caches.items in
    let change = λ (x : KnownCache). record x { live = put_rising (λ (p : ℕ). p) c.args.place x.live } in
    let none : position (λ (x : KnownCache). x.number == c.args.number) caches ≡ None =
    (λ j. position (λ (x : KnownCache). x.number == c.args.number) (sym c.deref.ensures.value j)) ∙ sym c.in-None.ensures.value in
    let e : map {B = KnownCache} (λ (x : KnownCache). if x.number == c.args.number then change x else x) caches ≡ caches =
    changed_none (λ (x : KnownCache). x.number) c.args.number change caches none in
    rw (← c.self.view_is, e)
