-- If an object is taken, its first place is put among the first places of the cache's live objects.
use Rattle.std.proofs.Common.{◌≡◌, ◌≢◌, ℕ, ◌<◌, true, List, map, refl, sym, subst, ◌⊎◌, inl, inr, arith}
use Rattle.std.proofs.lemmas.List.{map-id}
use Rattle.model_core.specs.Layouts.{object_place}
use Rattle.model_core.specs.Machine.{Slab, Cache, Machine, put_rising, layout}
use Rattle.model_core.specs.Slabs.{live_objects, with_cache, with_slab, with_live}
use Rattle.model_core.specs.WellFormed.{RisesFrom, IsWellFormed}
use Rattle.model_core.specs.Elements.{IsIn}
use Rattle.model_core.proofs.Lists.{put_rises, each_from, in_put, put_has}
use Rattle.model_core.proofs.CacheSteps.{live_kept}
use Rattle.model_core.proofs.RisingLists.{same_members}
use Rattle.promise_kept.proofs.LiveObjects.{live_rises, IsLivePlace, live_place, place_listed}
use Rattle.promise_kept.proofs.ObjectFlag.{replaced_one, live_after, live_other, live_this}

-- if object i of slab s is not live and is taken, the first places of the live objects are the old ones, with the first place of
-- object i put among them
pub place_put : {limit : ℕ} (order : ℕ) (c : Cache) (s : Slab) (i : ℕ) (m : Machine) → IsWellFormed limit order m → IsIn c m.caches → IsIn s c.slabs → i < (layout c).count
    → (IsLivePlace c (object_place (layout c) s.first s.colour i) → ⊥)
    → put_rising (λ p. p) (object_place (layout c) s.first s.colour i) (map (λ o. o.place) (live_objects c)) ≡ map (λ o. o.place) (live_objects (with_slab (with_live i true s) c))
place_put {limit} order c s i m w in_c in_s lt dead =
    let d : Cache = with_slab (with_live i true s) c in
    let p : ℕ = object_place (layout c) s.first s.colour i in
    let ps : List ℕ = map (λ o. o.place) (live_objects c) in
    let d_in : IsIn d (with_cache d m).caches = replaced_one (λ x. x.number) d c m.caches in_c refl in
    same_members 0 (put_rising (λ p. p) p ps) (map (λ o. o.place) (live_objects d))
    (subst (RisesFrom 0) (map-id (put_rising (λ p. p) p ps)) (put_rises (λ x. x) 0 p ps (subst (RisesFrom 0) (sym (map-id ps)) (live_rises order c m w in_c)) (omega arith)
    (each_from (λ y. y ≢ p) ps (λ y j e. dead (subst (IsLivePlace c) e (live_place c y j))))))
    (live_rises order d (with_cache d m) (live_kept order c s i true m w in_c in_s) d_in)
    (λ u j. there u (in_put (λ x. x) p u ps j))
    (λ u j. put_has (λ x. x) p u ps (back u (live_after limit order c s i true m w in_c in_s lt u (live_place d u j))))
  where
    there : (u : ℕ) → (object_place (layout c) s.first s.colour i ≡ u) ⊎ IsIn u (map (λ o. o.place) (live_objects c)) → IsIn u (map (λ o. o.place) (live_objects (with_slab (with_live i true s) c)))
    there u (inl e) = place_listed (with_slab (with_live i true s) c) u (subst (IsLivePlace (with_slab (with_live i true s) c)) e (live_this limit order c s i true m w in_c in_s lt refl))
    there u (inr j) = place_listed (with_slab (with_live i true s) c) u (live_other limit order c s i true m w in_c in_s lt u (live_place c u j) (λ e. dead (subst (IsLivePlace c) e (live_place c u j))))

    back : (u : ℕ) → ((true ≡ true) × (u ≡ object_place (layout c) s.first s.colour i)) ⊎ (IsLivePlace c u × (u ≡ object_place (layout c) s.first s.colour i → ⊥))
        → (object_place (layout c) s.first s.colour i ≡ u) ⊎ IsIn u (map (λ o. o.place) (live_objects c))
    back u (inl e) = inl (sym e.1)
    back u (inr e) = inr (place_listed c u e.0)
