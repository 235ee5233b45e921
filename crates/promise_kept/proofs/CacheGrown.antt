-- The promises do not see a new slab. What is known of a machine is still true after a cache grows by a slab, once two things are
-- changed in what is known: the cache is one that may have an empty slab, and there is no longer a valid report.
use Rattle.std.proofs.Common.{◌≡◌, ℕ, zero, suc, ◌+◌, ◌<◌, Bool, true, false, ◌||◌, eqb, ltb, List, [], ◌∷◌, ◌++◌, map, replicate, Some, refl, sym, ap, ◌∙◌, subst, ◌⊎◌, inl, inr, arith}
use Rattle.std.specs.Prelude.{if◌then◌else◌, flat_map, Contains}
use Rattle.std.specs.List.{list_any, AllByRecursion as Each}
use Rattle.std.proofs.lemmas.Bool.{false≢true, eq-eqb, eqb-true, or_parts, or_left, or_right, false_from_ne_true}
use Rattle.model_core.specs.Layouts.{object_place, pattern_byte}
use Rattle.model_core.specs.Machine.{Slab, Cache, Machine, put_rising, in_block, layout, slab_block, choice}
use Rattle.model_core.specs.Slabs.{live_in, new_slab, grown_cache, grown}
use Rattle.model_core.specs.WellFormed.{IsApart, IsCache, IsWellFormed, in_slab}
use Rattle.model_core.specs.Laws.{Object, IsObject, place_of}
use Rattle.model_core.proofs.Layouts.{layouts_fit}
use Rattle.model_core.specs.Elements.{IsIn}
use Rattle.model_core.proofs.Lists.{each_in, each_right, each_unmap, in_put}
use Rattle.model_core.proofs.BlocksApart.{apart_place, apart_turned}
use Rattle.model_core.proofs.LaidSlabs.{Laid, laid, all_laid, laid_block, in_laid, taken_laid, in_slab_laid}
use Rattle.model_core.proofs.MemoryKept.{any_put}
use Rattle.model_core.proofs.ChosenBlock.{chosen_apart}
use Rattle.model_core.proofs.SlabAmongOthers.{in_middle}
use Rattle.model_core.proofs.CacheSteps.{in_all_laid, IsGrown, grown_is, grown_kept}
use Rattle.model_core.proofs.ObjectsApart.{contains_in, one_key, in_contains}
use Rattle.model_core.proofs.ConstructedObjects.{IsFresh, AllFresh, grown_byte, fresh_grown}
use Rattle.promise_core.specs.Bytes.{Holder, may_be}
use Rattle.promise_core.specs.State.{State}
use Rattle.promise_kept.specs.Meets.{cache_as_known, holdings_of, is_object_live, Meets}
use Rattle.promise_kept.proofs.EmptySlabsUnseen.{none_live}
use Rattle.promise_kept.proofs.PlaceCells.{fresh_may}
use Rattle.promise_kept.proofs.KnownAfterReaping.{untold, object_in_slab}
use Rattle.promise_kept.proofs.LiveObjects.{IsLivePlace}
use Rattle.promise_kept.proofs.ObjectFlag.{replaced_is}
use Rattle.promise_kept.proofs.KnownCaches.{IsLiveIn, live_told}
use Rattle.promise_kept.proofs.ObjectsBeside.{is_slab}
use Rattle.promise_kept.proofs.TakeFromSlab.{hidden}

pub none_set : (n : ℕ) → list_any (λ live. live) (replicate n false) ≡ false
none_set zero = refl
none_set (suc n) = none_set n

live_put : (c : Cache) (t : Slab) (ss : List Slab) → live_in c t ≡ [] → flat_map (live_in c) (put_rising (λ s. s.first) t ss) ≡ flat_map (live_in c) ss
live_put c t [] e = ap (λ ls. ls ++ []) e
live_put c t (s ∷ ss) e = go (ltb t.first s.first) (live_put c t ss e)
  where
    go : (b : Bool) → flat_map (live_in c) (put_rising (λ s. s.first) t ss) ≡ flat_map (live_in c) ss
        → flat_map (live_in c) (if b then t ∷ (s ∷ ss) else s ∷ put_rising (λ s. s.first) t ss) ≡ live_in c s ++ flat_map (live_in c) ss
    go true rest = ap (λ ls. ls ++ (live_in c s ++ flat_map (live_in c) ss)) e
    go false rest = ap (λ ls. live_in c s ++ ls) rest

told_grown : (first : ℕ) (c : Cache) → cache_as_known (grown_cache first c) ≡ cache_as_known c
unfolding grown_cache
told_grown first c = ap (λ ls. record (cache_as_known c) { live = map (λ o. o.place) ls })
    (live_put c (new_slab c first) c.slabs (none_live c (new_slab c first) 0 (replicate (layout c).count false) (none_set (layout c).count)))

told_replaced : (g : Cache) (cs : List Cache) → ((x : Cache) → IsIn x cs → x.number ≡ g.number → cache_as_known g ≡ cache_as_known x)
    → map cache_as_known (map (λ x. if eqb x.number g.number then g else x) cs) ≡ map cache_as_known cs
told_replaced g [] f = refl
told_replaced g (x ∷ xs) f = go (eqb x.number g.number) refl (told_replaced g xs (λ y i. f y (inr i)))
  where
    go : (b : Bool) → eqb x.number g.number ≡ b → map cache_as_known (map (λ x. if eqb x.number g.number then g else x) xs) ≡ map cache_as_known xs
        → cache_as_known (if b then g else x) ∷ map cache_as_known (map (λ x. if eqb x.number g.number then g else x) xs) ≡ cache_as_known x ∷ map cache_as_known xs
    go true e rest = ap (λ t. t ∷ map cache_as_known (map (λ x. if eqb x.number g.number then g else x) xs)) (f x (inl refl) (eqb-true x.number g.number e)) ∙ ap (λ ts. cache_as_known x ∷ ts) rest
    go false e rest = ap (λ ts. cache_as_known x ∷ ts) rest

module _ {limit : ℕ} (order first : ℕ) (c : Cache) (m : Machine) (st : State) (w : IsWellFormed limit order m) (h : Meets order (untold st) m) (in_c : IsIn c m.caches)
    (e : choice order m (layout c).order ≡ Some first) where
  abbrev new : Slab
  new = new_slab c first

  abbrev n : Machine
  n = grown first c m

  -- the holdings that the promises see are the same before and after the cache has grown
  pub grown_seen : holdings_of n ≡ holdings_of m
  unfolding holdings_of grown grown_cache
  grown_seen = ap (λ cs. record { slots = m.slots; pages = m.blocks; caches = cs })
      (told_replaced (grown_cache first c) m.caches (λ x i same. told_grown first c ∙ ap cache_as_known (one_key (λ y. y.number) 0 m.caches c x w.caches_rise in_c i (sym same))))

  -- a place in a slab that the machine had before the growth is not in the new slab
  off_new : (l : Laid) → IsIn l (all_laid m.caches) → (p : ℕ) → in_laid p l ≡ true → in_block p (slab_block c new) ≡ false
  off_new l i p here = apart_place p (laid_block l) (slab_block c new) (apart_turned (slab_block c new) (laid_block l)
      (each_in (λ k. IsApart (slab_block c new) (laid_block k)) l (all_laid m.caches) (each_unmap (IsApart (slab_block c new)) laid_block (all_laid m.caches)
      (each_right (IsApart (slab_block c new)) m.blocks (map laid_block (all_laid m.caches)) (subst (Each (IsApart (slab_block c new))) (taken_laid m) (chosen_apart order (layout c).order first m w.apart e)))) i)) here

  in_grown : (p : ℕ) → in_slab n p ≡ (in_block p (slab_block c new) || in_slab m p)
  in_grown p =
      let g : IsGrown first c m = grown_is order first c m w in_c in
      in_slab_laid n p ∙ (ap (λ ls. list_any (in_laid p) ls) g.is ∙ (any_put (in_laid p) g.xs g.ys (laid c new)
      ∙ (ap (λ ls. in_block p (slab_block c new) || list_any (in_laid p) ls) (sym g.was) ∙ ap (λ b. in_block p (slab_block c new) || b) (sym (in_slab_laid m p)))))

  -- after the growth, each byte of an object in an old slab is one that the object may have there
  old_byte : (x : Cache) (t : Slab) (k j byte : ℕ) → IsIn x m.caches → IsIn t x.slabs → k < (layout x).count → j < x.size → n.bytes (object_place (layout x) t.first t.colour k + j) ≡ Some byte
      → may_be (Holder.Object x.number (object_place (layout x) t.first t.colour k)) (pattern_byte x.pattern j) (st.cells (object_place (layout x) t.first t.colour k + j)) byte ≡ true
  old_byte x t k j byte in_x in_t lt below is =
      let p : ℕ = object_place (layout x) t.first t.colour k + j in
      h.object_bytes (record { cache = x; slab = t; index = k }) j byte (record { cache_in = in_contains x m.caches in_x; slab_in = in_contains t x.slabs in_t; index_in = lt }) below
      (sym (grown_byte first c m p false (off_new (laid x t) (in_all_laid x t m.caches in_x in_t) p (object_in_slab order m x t k j w in_x in_t lt below))) ∙ is)

  sized : 0 < c.size
  sized = let k : IsCache c = each_in IsCache c m.caches w.caches in_c in (layouts_fit c.size c.align k.sized k.aligned).sized

  new_first : (k : ℕ) → k < (layout c).count → in_block (object_place (layout c) first new.colour k) (slab_block c new) ≡ true
  unfolding grown_cache
  new_first k lt =
      let g : IsGrown first c m = grown_is order first c m w in_c in
      let here : object_place (layout c) first new.colour k + 0 ≡ object_place (layout c) first new.colour k = omega arith in
      subst (λ p. in_block p (slab_block c new) ≡ true) here (object_in_slab order n (grown_cache first c) new k 0 (grown_kept order first c m w in_c e) g.cache_in g.slab_in lt sized)

  new_dead : (k p : ℕ) → k < (layout c).count → is_object_live st.has (Holder.Object c.number (object_place (layout c) first new.colour k)) p ≡ false
  new_dead k p lt = false_from_ne_true _ (λ live. go (live_told m c.number (object_place (layout c) first new.colour k) p
      (ap (λ x. is_object_live x (Holder.Object c.number (object_place (layout c) first new.colour k)) p) (sym h.has) ∙ live)))
    where
      go : IsLiveIn c.number (object_place (layout c) first new.colour k) m.caches → ⊥
      go l =
          let same : l.cache ≡ c = one_key (λ x. x.number) 0 m.caches l.cache c w.caches_rise l.cache_in in_c l.number_is in
          let o : IsLivePlace c (object_place (layout c) first new.colour k) = subst (λ x. IsLivePlace x (object_place (layout c) first new.colour k)) same l.place in
          false≢true (sym (off_new (laid c o.slab) (in_all_laid c o.slab m.caches in_c o.slab_in) (object_place (layout c) first new.colour k) (at o)) ∙ new_first k lt)
        where
          at : (o : IsLivePlace c (object_place (layout c) first new.colour k)) → in_laid (object_place (layout c) first new.colour k) (laid c o.slab) ≡ true
          at o =
              let here : object_place (layout c) o.slab.first o.slab.colour o.index + 0 ≡ object_place (layout c) first new.colour k = omega (arith, o.at) in
              subst (λ p. in_laid p (laid c o.slab) ≡ true) here
              (object_in_slab order m c o.slab o.index 0 w in_c o.slab_in (subst (λ n. o.index < n) (is_slab order c m w in_c o.slab o.slab_in).count o.index_in) sized)

  -- after the growth, each byte of an object in the new slab is one that the object may have there
  new_byte : (k j byte : ℕ) → k < (layout c).count → j < c.size → n.bytes (object_place (layout c) first new.colour k + j) ≡ Some byte
      → may_be (Holder.Object c.number (object_place (layout c) first new.colour k)) (pattern_byte c.pattern j) (st.cells (object_place (layout c) first new.colour k + j)) byte ≡ true
  new_byte k j byte lt below is =
      let p : ℕ = object_place (layout c) first new.colour k in
      let g : IsGrown first c m = grown_is order first c m w in_c in
      let fresh : AllFresh p n = fresh_grown order p first c m w in_c e (λ out. absurd (false≢true (sym out ∙ new_first k lt))) in
      let in_new : IsIn (laid c new) (all_laid n.caches) = subst (IsIn (laid c new)) (sym g.is) (in_middle g.xs g.ys (laid c new)) in
      let there : n.bytes (p + j) ≡ Some (pattern_byte c.pattern j) = (each_in (IsFresh n.bytes p) (laid c new) (all_laid n.caches) fresh in_new k lt refl).1 j below in
      let both : Some (pattern_byte c.pattern j) ≡ Some byte = sym there ∙ is in
      let same : pattern_byte c.pattern j ≡ byte = cc in
      subst (λ b. may_be (Holder.Object c.number p) (pattern_byte c.pattern j) (st.cells (p + j)) b ≡ true) same
      (fresh_may st.has st.cells h.lives (Holder.Object c.number p) (p + j) (pattern_byte c.pattern j) (new_dead k (p + j) lt))

  pub grown_meets : Meets order (hidden c.number st) n
  unfolding grown grown_cache
  grown_meets = record {
    has = h.has ∙ sym grown_seen;
    may_have_empty = λ x slab i j. go_may_have_empty x slab (contains_in n.caches x i) j;
    lives = h.lives;
    page_bytes = λ p byte out is.
        let off : (in_block p (slab_block c new) ≡ false) × (in_slab m p ≡ false) = or_parts (in_block p (slab_block c new)) (in_slab m p) (sym (in_grown p) ∙ out) in
        h.page_bytes p byte off.1 (sym (grown_byte first c m p false off.0) ∙ is);
    object_bytes = λ o j byte i below is. go_bytes o j byte below is i (replaced_is (λ y. y.number) (grown_cache first c) o.cache m.caches (contains_in n.caches o.cache i.cache_in));
    empty_told = λ r e. absurd (cc);
    free_told = λ r e. absurd (cc);
  }
    where
      go_may_have_empty : (x : Cache) (slab : Slab) → IsIn x n.caches → Contains x.slabs slab → (eqb x.number c.number || st.may_have_empty x.number) ≡ true
      go_may_have_empty x slab i j = go (replaced_is (λ y. y.number) (grown_cache first c) x m.caches i)
        where
          go : (grown_cache first c ≡ x) ⊎ (IsIn x m.caches × (eqb x.number c.number ≡ false)) → (eqb x.number c.number || st.may_have_empty x.number) ≡ true
          go (inl e) = or_left (eqb x.number c.number) (st.may_have_empty x.number) (eq-eqb x.number c.number (ap (λ (y : Cache). y.number) (sym e)))
          go (inr l) = or_right (eqb x.number c.number) (st.may_have_empty x.number) (h.may_have_empty x slab (in_contains x m.caches l.0) j)

      go_bytes : (o : Object) (j byte : ℕ) → j < o.cache.size → n.bytes (place_of o + j) ≡ Some byte → IsObject n o → (grown_cache first c ≡ o.cache) ⊎ (IsIn o.cache m.caches × (eqb o.cache.number c.number ≡ false))
          → may_be (Holder.Object o.cache.number (place_of o)) (pattern_byte o.cache.pattern j) (st.cells (place_of o + j)) byte ≡ true
      go_bytes o j byte below is i (inr l) = old_byte o.cache o.slab o.index j byte l.0 (contains_in o.cache.slabs o.slab i.slab_in) i.index_in below is
      go_bytes o j byte below is i (inl e) = subst (λ x. IsIn o.slab x.slabs → o.index < (layout x).count → j < x.size → n.bytes (object_place (layout x) o.slab.first o.slab.colour o.index + j) ≡ Some byte
          → may_be (Holder.Object x.number (object_place (layout x) o.slab.first o.slab.colour o.index)) (pattern_byte x.pattern j) (st.cells (object_place (layout x) o.slab.first o.slab.colour o.index + j)) byte ≡ true)
          e (λ in_t lt small there. by lt small there (in_put (λ s. s.first) new o.slab c.slabs in_t))
          (contains_in o.cache.slabs o.slab i.slab_in) i.index_in below is
        where
          by : o.index < (layout c).count → j < c.size → n.bytes (object_place (layout c) o.slab.first o.slab.colour o.index + j) ≡ Some byte → (new ≡ o.slab) ⊎ IsIn o.slab c.slabs
              → may_be (Holder.Object c.number (object_place (layout c) o.slab.first o.slab.colour o.index)) (pattern_byte c.pattern j) (st.cells (object_place (layout c) o.slab.first o.slab.colour o.index + j)) byte ≡ true
          by lt small there (inr in_t) = old_byte c o.slab o.index j byte in_c in_t lt small there
          by lt small there (inl same) = subst (λ t. n.bytes (object_place (layout c) t.first t.colour o.index + j) ≡ Some byte
              → may_be (Holder.Object c.number (object_place (layout c) t.first t.colour o.index)) (pattern_byte c.pattern j) (st.cells (object_place (layout c) t.first t.colour o.index + j)) byte ≡ true)
              same (λ is. new_byte o.index j byte lt small is) there
