-- A `take` of an object that is not live keeps the promises.
use Rattle.std.proofs.Common.{◌≡◌, ℕ, ◌+◌, ◌/◌, ◌<◌, Bool, true, false, not, ◌&&◌, ◌||◌, eqb, [], ◌∷◌, get_or, Some, None, refl, sym, ap, ◌∙◌, subst, ◌⊎◌, inl, inr}
use Rattle.std.specs.Prelude.{is_none, Contains}
use Rattle.std.specs.List.{list_all}
use Rattle.std.specs.Option.{option_map_or}
use Rattle.std.proofs.lemmas.Bool.{eq-eqb, false≢true, cases_eq, and_from, or_left, or_right}
use Rattle.model_core.specs.Layouts.{object_place, pattern_byte}
use Rattle.model_core.specs.Machine.{Slab, Cache, Machine, in_block, layout, slab_block, put_rising}
use Rattle.model_core.specs.Slabs.{with_cache, with_slab, with_live}
use Rattle.model_core.specs.WellFormed.{IsWellFormed, in_slab}
use Rattle.model_core.specs.Laws.{Object, IsObject, place_of}
use Rattle.model_core.specs.Elements.{IsIn}
use Rattle.model_core.proofs.Lists.{each_in, none_any as none_of}
use Rattle.model_core.proofs.BlocksApart.{in_block-true, one_holder}
use Rattle.model_core.proofs.LaidSlabs.{laid, all_laid, laid_layout, laid_block, in_laid, laid_out, in_slab_laid}
use Rattle.model_core.proofs.CacheSteps.{in_all_laid}
use Rattle.model_core.proofs.ObjectsApart.{contains_in, one_key, in_contains}
use Rattle.model_core.proofs.SlabsLeave.{flagged_same}
use Rattle.words_core.specs.declared.event.Event.TheVariants as On
use Rattle.words_core.specs.declared.event.Command.TheVariants as Command
use Rattle.words_core.specs.declared.reply.Addressee.TheVariants as To
use Rattle.words_core.specs.declared.reply.Body.TheVariants as Say
use Rattle.words_core.specs.declared.reply.Refusal.{Refusal}
use Rattle.promise_core.specs.Holdings.{KnownCache, slab_around, are_apart, can_be_taken, known_cache as known_cache, with_live_places as with_live_told}
use Rattle.promise_core.specs.Bytes.{Holder, is_object, may_be, without}
use Rattle.promise_core.specs.State.{State, state_after, with_object}
use Rattle.promise_core.specs.Promises.{due, first_due}
use Rattle.promise_kept.specs.Meets.{cache_as_known, holdings_of, is_object_live, Meets, IsKeptBy}
use Rattle.promise_kept.proofs.PlaceCells.{all_kept, formed, without_some, without_may}
use Rattle.promise_kept.proofs.KnownAfterReaping.{object_in_slab}
use Rattle.promise_kept.proofs.LiveObjects.{IsLivePlace}
use Rattle.promise_kept.proofs.ObjectFlag.{replaced_is, replaced_one, IsOne, one_place, live_other, WasObject, was_object, caches_known}
use Rattle.promise_kept.proofs.KnownCaches.{seen, live_told, told_live, live_replaced, cache_known}
use Rattle.promise_kept.proofs.TakenObjectPlace.{place_put}
use Rattle.promise_kept.proofs.ObjectsBeside.{is_slab, slab_here}
use Rattle.promise_kept.proofs.FreeObject.{two_apart, can_take}

-- the state s, except that the cache with this number may have an empty slab, and that there is no valid report
abbrev pub hidden : ℕ → State → State
hidden number s = record s { may_have_empty = λ n. eqb n number || s.may_have_empty n; last_report = None }

-- The place is in the slab around `first`. The holder is neither the object of cache c that begins at `first`, nor an object of
-- cache c that shares no byte with that object.
abbrev left_beside : KnownCache → ℕ → ℕ → Holder → Bool
left_beside c first place holder = in_block place (slab_around c first) && not (is_object (λ n p. eqb n c.number && (eqb p first || are_apart c first p)) holder)

module _ {limit : ℕ} (order : ℕ) (c : Cache) (s : Slab) (i : ℕ) (m : Machine) (st : State) (w : IsWellFormed limit order m) (h : Meets order (hidden c.number st) m)
    (in_c : IsIn c m.caches) (in_s : IsIn s c.slabs) (lt : i < (layout c).count) (dead : get_or s.live i false ≡ false) where
  abbrev place : ℕ
  place = object_place (layout c) s.first s.colour i

  abbrev d : Cache
  d = with_slab (with_live i true s) c

  abbrev n : Machine
  n = with_cache (with_slab (with_live i true s) c) m

  d_in : IsIn d n.caches
  d_in = replaced_one (λ x. x.number) d c m.caches in_c refl

  not_live : IsLivePlace c place → ⊥
  not_live l =
      let one : IsOne l.slab s l.index i = one_place order c m w in_c l.slab s l.index i l.slab_in in_s (subst (λ k. l.index < k) (is_slab order c m w in_c l.slab l.slab_in).count l.index_in) lt (sym l.at) in
      false≢true (sym dead ∙ (ap (λ t. get_or t.live i false) (sym one.slab) ∙ (ap (λ k. get_or l.slab.live k false) (sym one.index) ∙ l.live)))

  still_live : (p : ℕ) (holder : Holder) → is_object_live (holdings_of m) holder p ≡ true → is_object_live (holdings_of n) holder p ≡ true
  unfolding holdings_of
  still_live p Holder.Page e = e
  still_live p (Holder.Object number first) e = told_live n number first p (live_replaced c d m w.caches_rise in_c refl number first (live_told m number first p e)
      (λ _ was. live_other limit order c s i true m w in_c in_s lt first was (λ f. not_live (subst (IsLivePlace c) f was))))

  -- Neither a cell of a page block at a place outside slabs nor a cell of one of the machine's objects passes `left_beside`. So
  -- none of these cells is dropped.
  page_left : (p : ℕ) → in_slab m p ≡ false → left_beside (cache_as_known c) place p Holder.Page ≡ false
  page_left p out = ap (λ b. b && true) (ap (in_block p) (slab_here order c m w in_c s i in_s lt)
      ∙ each_in (λ k. in_laid p k ≡ false) (laid c s) (all_laid m.caches) (none_of (in_laid p) (all_laid m.caches) (sym (in_slab_laid m p) ∙ out)) (in_all_laid c s m.caches in_c in_s))

  object_left : (o : Object) (j : ℕ) → IsObject m o → j < o.cache.size → left_beside (cache_as_known c) place (place_of o + j) (Holder.Object o.cache.number (place_of o)) ≡ false
  object_left o j is byte_in = ap (λ b. in_block (place_of o + j) b && not (of_slab)) (slab_here order c m w in_c s i in_s lt) ∙ go (in_block (place_of o + j) (slab_block c s)) refl
    where
      of_slab : Bool
      of_slab = eqb o.cache.number c.number && (eqb (place_of o) place || are_apart (cache_as_known c) place (place_of o))

      go : (b : Bool) → in_block (place_of o + j) (slab_block c s) ≡ b → (b && not of_slab) ≡ false
      go false e = refl
      go true e =
          let in_o : IsIn o.cache m.caches = contains_in m.caches o.cache is.cache_in in
          let in_t : IsIn o.slab o.cache.slabs = contains_in o.cache.slabs o.slab is.slab_in in
          let there : in_laid (place_of o + j) (laid o.cache o.slab) ≡ true = object_in_slab order m o.cache o.slab o.index j w in_o in_t is.index_in byte_in in
          let one : laid o.cache o.slab ≡ laid c s = one_holder laid_block (all_laid m.caches) (laid o.cache o.slab) (laid c s) ((place_of o + j) / 4096) (laid_out order m w).apart_slabs
          (in_all_laid o.cache o.slab m.caches in_o in_t) (in_all_laid c s m.caches in_c in_s) (in_block-true (place_of o + j) (laid_block (laid o.cache o.slab)) there) (in_block-true (place_of o + j) (slab_block c s) e) in
          let at : place_of o ≡ object_place (layout c) s.first s.colour o.index = ap (λ k. object_place (laid_layout k) k.first k.colour o.index) one in
          ap not (and_from (eqb o.cache.number c.number) (eqb (place_of o) place || are_apart (cache_as_known c) place (place_of o)) (eq-eqb o.cache.number c.number (ap (λ k. k.number) one)) (by at (cases_eq o.index i)))
        where
          by : place_of o ≡ object_place (layout c) s.first s.colour o.index → (o.index ≡ i) ⊎ (o.index ≡ i → ⊥) → (eqb (place_of o) place || are_apart (cache_as_known c) place (place_of o)) ≡ true
          by at (inl same) = or_left (eqb (place_of o) place) (are_apart (cache_as_known c) place (place_of o)) (eq-eqb (place_of o) place (at ∙ ap (λ k. object_place (layout c) s.first s.colour k) same))
          by at (inr differ) = or_right (eqb (place_of o) place) (are_apart (cache_as_known c) place (place_of o)) (ap (are_apart (cache_as_known c) place) at ∙ two_apart order c s m w in_c in_s i o.index differ)

  abbrev after : State
  after = record {
    has = holdings_of n;
    cells = without (left_beside (cache_as_known c) place) st.cells;
    may_have_empty = λ k. eqb k c.number || st.may_have_empty k;
    last_report = None;
  }

  meets : Meets order after n
  meets = record {
    has = refl;
    may_have_empty = λ x slab k j. go_may_have_empty x slab (contains_in n.caches x k) j;
    lives = λ p cell e sure. let was = without_some (left_beside (cache_as_known c) place) st.cells p cell e in
        still_live p cell.holder (ap (λ x. is_object_live x cell.holder p) (sym h.has) ∙ h.lives p cell was.0 sure);
    page_bytes = λ p byte out is. let outside : in_slab m p ≡ false = sym (flagged_same order p c s i true m w in_c in_s) ∙ out in
        without_may (left_beside (cache_as_known c) place) st.cells Holder.Page p 0 byte (page_left p outside) (h.page_bytes p byte outside is);
    object_bytes = λ x j byte k below is. go_bytes x j byte below is (was_object limit order c s i true m w in_c in_s lt x k);
    empty_told = λ r e. absurd (cc);
    free_told = λ r e. absurd (cc);
  }
    where
      go_may_have_empty : (x : Cache) (slab : Slab) → IsIn x n.caches → Contains x.slabs slab → (eqb x.number c.number || st.may_have_empty x.number) ≡ true
      go_may_have_empty x slab k j = go (replaced_is (λ y. y.number) d x m.caches k)
        where
          go : (d ≡ x) ⊎ (IsIn x m.caches × (eqb x.number c.number ≡ false)) → (eqb x.number c.number || st.may_have_empty x.number) ≡ true
          go (inl e) = or_left (eqb x.number c.number) (st.may_have_empty x.number) (eq-eqb x.number c.number (ap (λ (y : Cache). y.number) (sym e)))
          go (inr l) = h.may_have_empty x slab (in_contains x m.caches l.0) j

      go_bytes : (x : Object) (j byte : ℕ) → j < x.cache.size → m.bytes (place_of x + j) ≡ Some byte → WasObject m x
          → may_be (Holder.Object x.cache.number (place_of x)) (pattern_byte x.cache.pattern j) (without (left_beside (cache_as_known c) place) st.cells (place_of x + j)) byte ≡ true
      go_bytes x j byte below is k =
          subst (λ number. may_be (Holder.Object number (place_of x)) (pattern_byte x.cache.pattern j) (without (left_beside (cache_as_known c) place) st.cells (place_of x + j)) byte ≡ true) k.number
          (subst (λ pattern. may_be (Holder.Object k.was.cache.number (place_of x)) (pattern_byte pattern j) (without (left_beside (cache_as_known c) place) st.cells (place_of x + j)) byte ≡ true) k.pattern
          (subst (λ p. may_be (Holder.Object k.was.cache.number p) (pattern_byte k.was.cache.pattern j) (without (left_beside (cache_as_known c) place) st.cells (p + j)) byte ≡ true) k.place
          (let small : j < k.was.cache.size = subst (λ size. j < size) (sym k.size) below in
          without_may (left_beside (cache_as_known c) place) st.cells (Holder.Object k.was.cache.number (place_of k.was)) (place_of k.was + j) (pattern_byte k.was.cache.pattern j) byte
          (object_left k.was j k.object small) (h.object_bytes k.was j byte k.object small (ap (λ p. m.bytes (p + j)) k.place ∙ is)))))

  has_after : with_live_told c.number (put_rising (λ p. p) place) (holdings_of m) ≡ holdings_of n
  unfolding holdings_of
  has_after = ap (λ cs. record { slots = m.slots; pages = m.blocks; caches = cs })
      (caches_known c.number (put_rising (λ p. p) place) c d m.caches refl (λ x k e. one_key (λ y. y.number) 0 m.caches x c w.caches_rise k in_c e)
      (ap (λ ps. record (cache_as_known c) { live = ps }) (place_put order c s i m w in_c in_s lt not_live)))

  told_here : known_cache (holdings_of m) c.number ≡ Some (cache_as_known c)
  told_here = cache_known order m c w in_c

  -- the state after the take, as `state_after` defines it
  abbrev said : State
  said = record {
    has = with_live_told c.number (put_rising (λ p. p) place) (holdings_of m);
    cells = with_object place (known_cache (holdings_of m) c.number) st.cells;
    may_have_empty = λ k. eqb k c.number || st.may_have_empty k;
    last_report = None;
  }

  said_meets : Meets order said n
  said_meets = subst (λ x. Meets order (record after { has = x; cells = with_object place (known_cache (holdings_of m) c.number) st.cells }) n) (sym has_after)
      (subst (λ o. Meets order (record after { cells = with_object place o st.cells }) n) (sym told_here) meets)

  pub handed : list_all (λ live. live) s.live ≡ false → IsKeptBy limit order (Command.Take c.number) (seen m st) (Say.Object place) n
  unfolding due state_after
  handed some = record {
    allowed = λ t owners states. all_kept (On.Tenant t (Command.Take c.number)) (record { addressee = To.Tenant t; body = Say.Object place })
        (record { limit = limit; order = order; owners = owners; states = states }) (seen m st)
        (formed t (Some said) refl)
        (ap (λ o. is_none (first_due ((is_none o, Refusal.NoCache) ∷ []))) told_here)
        refl refl refl
        (ap (λ o. option_map_or (λ x. can_be_taken order (holdings_of m) x place) o false) told_here ∙ can_take order c s m w in_c in_s i lt dead some)
        refl refl refl refl refl refl;
    meets = λ t. (said, refl, said_meets);
  }
