-- A `give` keeps the promises.
use Rattle.std.proofs.Common.{◌≡◌, ℕ, ◌+◌, ◌<◌, true, false, not, ◌&&◌, eqb, List, map, Option, Some, None, refl, sym, ap, ◌∙◌, subst, ◌⊎◌, inl, inr}
use Rattle.std.specs.Prelude.{option_map, find, filter, Contains}
use Rattle.std.specs.List.{list_any}
use Rattle.std.proofs.lemmas.List.{map-id}
use Rattle.std.proofs.lemmas.Bool.{eqb-true, eqb-false, eq-eqb, ne_eqb, false≢true, not-true, not_from_false, and_from, both_ways}
use Rattle.model_core.specs.Layouts.{object_place, pattern_byte}
use Rattle.model_core.specs.Machine.{Slab, Cache, Machine, layout}
use Rattle.model_core.specs.Slabs.{LiveObject, live_objects, cache_of, with_cache, with_slab, with_live}
use Rattle.model_core.specs.CacheOperations.{give_object, give_of, give_step}
use Rattle.model_core.specs.WellFormed.{RisesFrom, IsCache, IsWellFormed}
use Rattle.model_core.specs.Laws.{Object, place_of}
use Rattle.model_core.specs.Elements.{IsIn}
use Rattle.model_core.proofs.Lists.{each_in, find_in, in_filter, filter_in, filter_rises, any_map, any_in, any_unfound}
use Rattle.model_core.proofs.ObjectsApart.{contains_in, one_key, in_contains}
use Rattle.model_core.proofs.CacheSteps.{live_kept}
use Rattle.model_core.proofs.SlabsLeave.{flagged_same}
use Rattle.model_core.proofs.Objects.{IsLive, live_is}
use Rattle.model_core.proofs.RisingLists.{same_members}
use Rattle.words_core.specs.declared.event.Command.TheVariants as Command
use Rattle.words_core.specs.declared.reply.Body.TheVariants as Say
use Rattle.words_core.specs.declared.reply.Refusal.{Refusal}
use Rattle.world_core.specs.PrivateStep.{command_step, give_body}
use Rattle.promise_core.specs.Holdings.{with_live_places as with_live_told}
use Rattle.promise_core.specs.Bytes.{Holder, is_same, may_be, doubted}
use Rattle.promise_core.specs.State.{State, state_after}
use Rattle.promise_core.specs.Promises.{due}
use Rattle.promise_kept.specs.Meets.{cache_as_known, holdings_of, is_object_live, Meets, IsKeptBy, IsPromiseKept}
use Rattle.promise_kept.proofs.LiveObjects.{IsSlab, slabs_of, live_rises, IsLivePlace, live_place, place_listed}
use Rattle.promise_kept.proofs.ObjectFlag.{replaced_is, replaced_one, live_after, live_other, WasObject, was_object, caches_known}
use Rattle.promise_kept.proofs.PlaceCells.{doubt_may, doubt_lives, refused}
use Rattle.promise_kept.proofs.KnownCaches.{seen, seen_is, cache_seen, live_told, told_live, live_replaced}

abbrev gone : ℕ → List ℕ → List ℕ
gone place ps = filter (λ p. not (eqb p place)) ps

gone_rises : (place n : ℕ) (ps : List ℕ) → RisesFrom n ps → RisesFrom n (gone place ps)
gone_rises place n ps r = subst (RisesFrom n) (map-id (gone place ps)) (filter_rises (λ p. p) (λ p. not (eqb p place)) n ps (subst (RisesFrom n) (sym (map-id ps)) r))

-- o, the live object of cache c that begins at `place`, is given back
module _ (limit order place : ℕ) (c : Cache) (o : LiveObject) (m : Machine) (s : State) (w : IsWellFormed limit order m) (h : Meets order s m) (in_c : IsIn c m.caches) (l : IsLive c o) (at : o.place ≡ place) where
  lt : o.index < (layout c).count
  lt = let k : IsSlab c o.slab = each_in (IsSlab c) o.slab c.slabs (slabs_of c (each_in IsCache c m.caches w.caches in_c)) l.slab_in in subst (λ n. o.index < n) k.count l.index_in

  here : object_place (layout c) o.slab.first o.slab.colour o.index ≡ place
  here = sym l.at ∙ at

  abbrev d : Cache
  d = with_slab (with_live o.index false o.slab) c

  abbrev n : Machine
  n = with_cache (with_slab (with_live o.index false o.slab) c) m

  d_in : IsIn d n.caches
  d_in = replaced_one (λ x. x.number) d c m.caches in_c refl

  other : (u : ℕ) → IsLivePlace c u → (u ≡ place → ⊥) → IsLivePlace d u
  other u p ne = live_other limit order c o.slab o.index false m w in_c l.slab_in lt u p (λ e. ne (e ∙ here))

  left : gone place (map (λ x. x.place) (live_objects c)) ≡ map (λ x. x.place) (live_objects d)
  left = same_members 0 (gone place (map (λ x. x.place) (live_objects c))) (map (λ x. x.place) (live_objects d))
      (gone_rises place 0 (map (λ x. x.place) (live_objects c)) (live_rises order c m w in_c))
      (live_rises order d n (live_kept order c o.slab o.index false m w in_c l.slab_in) d_in) there back
    where
      there : (u : ℕ) → IsIn u (gone place (map (λ x. x.place) (live_objects c))) → IsIn u (map (λ x. x.place) (live_objects d))
      there u i =
          let f : IsIn u (map (λ x. x.place) (live_objects c)) × (not (eqb u place) ≡ true) = filter_in (λ p. not (eqb p place)) u (map (λ x. x.place) (live_objects c)) i in
          place_listed d u (other u (live_place c u f.0) (eqb-false u place (not-true (eqb u place) f.1)))

      back : (u : ℕ) → IsIn u (map (λ x. x.place) (live_objects d)) → IsIn u (gone place (map (λ x. x.place) (live_objects c)))
      back u i = go (live_after limit order c o.slab o.index false m w in_c l.slab_in lt u (live_place d u i))
        where
          go : ((false ≡ true) × (u ≡ object_place (layout c) o.slab.first o.slab.colour o.index)) ⊎ (IsLivePlace c u × (u ≡ object_place (layout c) o.slab.first o.slab.colour o.index → ⊥))
              → IsIn u (gone place (map (λ x. x.place) (live_objects c)))
          go (inl e) = absurd (false≢true e.0)
          go (inr e) = in_filter (λ p. not (eqb p place)) u (map (λ x. x.place) (live_objects c)) (place_listed c u e.0) (not_from_false (eqb u place) (ne_eqb u place (λ k. e.1 (k ∙ sym here))))

  still_live : (p : ℕ) (holder : Holder) → is_object_live (holdings_of m) holder p ≡ true → is_same (Holder.Object c.number place) holder ≡ false → is_object_live (holdings_of n) holder p ≡ true
  unfolding holdings_of
  still_live p Holder.Page e differs = e
  still_live p (Holder.Object number first) e differs = told_live n number first p (live_replaced c d m w.caches_rise in_c refl number first (live_told m number first p e)
      (λ same was. other first was (λ f. both_ways (eqb number c.number && eqb first place) differs
      (and_from (eqb number c.number) (eqb first place) (eq-eqb number c.number same) (eq-eqb first place f)))))

  after : State
  after = record s { has = holdings_of n; cells = doubted (λ p. is_same (Holder.Object c.number place)) s.cells; last_report = None }

  meets : Meets order after n
  unfolding after
  meets = record {
    has = refl;
    may_have_empty = λ x slab i j. go_may_have_empty x slab (contains_in n.caches x i) j;
    lives = λ p cell e sure. let k = doubt_lives (λ p. is_same (Holder.Object c.number place)) s.cells p cell e sure in
        still_live p cell.holder (subst (λ x. is_object_live (holdings_of m) x p ≡ true) k.3 (ap (λ x. is_object_live x k.0.holder p) (sym h.has) ∙ h.lives p k.0 k.1 k.2)) k.4;
    page_bytes = λ p byte out is. doubt_may (λ p. is_same (Holder.Object c.number place)) s.cells Holder.Page p 0 byte
        (h.page_bytes p byte (sym (flagged_same order p c o.slab o.index false m w in_c l.slab_in) ∙ out) is);
    object_bytes = λ x j byte i below is. go_bytes x j byte below is (was_object limit order c o.slab o.index false m w in_c l.slab_in lt x i);
    empty_told = λ r e. absurd (cc);
    free_told = λ r e. absurd (cc);
  }
    where
      go_may_have_empty : (x : Cache) (slab : Slab) → IsIn x n.caches → Contains x.slabs slab → s.may_have_empty x.number ≡ true
      go_may_have_empty x slab i j = go (replaced_is (λ y. y.number) d x m.caches i)
        where
          go : (d ≡ x) ⊎ (IsIn x m.caches × (eqb x.number c.number ≡ false)) → s.may_have_empty x.number ≡ true
          go (inl e) = ap (λ (y : Cache). s.may_have_empty y.number) (sym e) ∙ h.may_have_empty c o.slab (in_contains c m.caches in_c) (in_contains o.slab c.slabs l.slab_in)
          go (inr k) = h.may_have_empty x slab (in_contains x m.caches k.0) j

      go_bytes : (x : Object) (j byte : ℕ) → j < x.cache.size → m.bytes (place_of x + j) ≡ Some byte → WasObject m x
          → may_be (Holder.Object x.cache.number (place_of x)) (pattern_byte x.cache.pattern j) (doubted (λ p. is_same (Holder.Object c.number place)) s.cells (place_of x + j)) byte ≡ true
      go_bytes x j byte below is k = doubt_may (λ p. is_same (Holder.Object c.number place)) s.cells (Holder.Object x.cache.number (place_of x)) (place_of x + j) (pattern_byte x.cache.pattern j) byte
          (subst (λ number. may_be (Holder.Object number (place_of x)) (pattern_byte x.cache.pattern j) (s.cells (place_of x + j)) byte ≡ true) k.number
          (subst (λ pattern. may_be (Holder.Object k.was.cache.number (place_of x)) (pattern_byte pattern j) (s.cells (place_of x + j)) byte ≡ true) k.pattern
          (subst (λ p. may_be (Holder.Object k.was.cache.number p) (pattern_byte k.was.cache.pattern j) (s.cells (p + j)) byte ≡ true) k.place
          (h.object_bytes k.was j byte k.object (subst (λ size. j < size) (sym k.size) below) (ap (λ p. m.bytes (p + j)) k.place ∙ is)))))

  has_after : with_live_told c.number (gone place) (holdings_of m) ≡ holdings_of n
  unfolding holdings_of
  has_after = ap (λ cs. record { slots = m.slots; pages = m.blocks; caches = cs })
      (caches_known c.number (gone place) c d m.caches refl (λ x i e. one_key (λ y. y.number) 0 m.caches x c w.caches_rise i in_c e)
      (ap (λ ps. record (cache_as_known c) { live = ps }) left))

  given : cache_of m c.number ≡ Some c → list_any (λ p. eqb p place) (map (λ x. x.place) (live_objects c)) ≡ true → IsKeptBy limit order (Command.Give c.number place) (seen m s) Say.Given n
  unfolding holdings_of due state_after after
  given e f = record {
    allowed = λ t owners states. rw (eq-eqb t t refl) (rw (cache_seen c.number m.caches ∙ ap (option_map cache_as_known) e) (rw f refl));
    meets = λ t. (record after { has = with_live_told c.number (gone place) (holdings_of m) }, refl, subst (λ x. Meets order (record after { has = x }) n) (sym has_after) meets);
  }

give_seen : (limit order number place : ℕ) (m : Machine) (s : State) → IsWellFormed limit order m → Meets order s m → Meets order (seen m s) m → IsPromiseKept limit order (Command.Give number place) m (seen m s)
unfolding command_step give_step holdings_of due state_after
give_seen limit order number place m s w h k = go (cache_of m number) refl
  where
    object : (c : Cache) → cache_of m number ≡ Some c → (o : Option LiveObject) → find (λ x. eqb x.place place) (live_objects c) ≡ o
        → IsKeptBy limit order (Command.Give number place) (seen m s) (give_body (give_object c m o).answer) (give_object c m o).machine
    object c e None f =
        refused limit order (Command.Give number place) Refusal.NotAnObject (seen m s) m k
        (λ t owners states. (
          rw (cache_seen number m.caches ∙ ap (option_map cache_as_known) e)
              (rw (any_map (λ p. eqb p place) (λ x. x.place) (live_objects c) ∙ any_unfound (λ x. eqb x.place place) (live_objects c) f) refl),
          refl,
        ))
    object c e (Some o) f =
        let in_c : IsIn c m.caches × (eqb c.number number ≡ true) = find_in (λ x. eqb x.number number) c m.caches e in
        let in_o : IsIn o (live_objects c) × (eqb o.place place ≡ true) = find_in (λ x. eqb x.place place) o (live_objects c) f in
        let same : c.number ≡ number = eqb-true c.number number in_c.1 in
        subst (λ i. IsKeptBy limit order (Command.Give i place) (seen m s) Say.Given (with_cache (with_slab (with_live o.index false o.slab) c) m)) same
        (given limit order place c o m s w h in_c.0 (live_is c o in_o.0) (eqb-true o.place place in_o.1) (subst (λ i. cache_of m i ≡ Some c) (sym same) e)
        (any_map (λ p. eqb p place) (λ x. x.place) (live_objects c) ∙ any_in (λ x. eqb x.place place) o (live_objects c) in_o.0 in_o.1))

    go : (o : Option Cache) → cache_of m number ≡ o → IsKeptBy limit order (Command.Give number place) (seen m s) (give_body (give_of place m o).answer) (give_of place m o).machine
    go None e =
        refused limit order (Command.Give number place) Refusal.NoCache (seen m s) m k
        (λ t owners states. (rw (cache_seen number m.caches ∙ ap (option_map cache_as_known) e) refl, refl))
    go (Some c) e = object c e (find (λ x. eqb x.place place) (live_objects c)) refl

pub give_kept : (limit order number place : ℕ) (m : Machine) (s : State) → IsWellFormed limit order m → Meets order s m → IsPromiseKept limit order (Command.Give number place) m s
give_kept limit order number place m s w h =
    let e : seen m s ≡ s = seen_is m s h.has in
    subst (IsPromiseKept limit order (Command.Give number place) m) e (give_seen limit order number place m s w h (subst (λ x. Meets order x m) (sym e) h))
