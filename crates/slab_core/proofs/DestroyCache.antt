-- Removing a cache without live objects, with all its slabs, has the effect of `destroy_step` on the machine.
use Rattle.std.proofs.Common.{◌≡◌, ◌≢◌, ℕ, ◌+◌, ◌/◌, ◌%◌, ◌<◌, Bool, true, false, not, cond, eqb, List, [], ◌∷◌, ◌++◌, map, length, append-nil, Some, None, refl, sym, ap, ◌∙◌, subst, inl, inr, ⊎_elim, arith}
use Rattle.std.specs.Prelude.{Option, option_map, filter, flat_map, Ok, ◌&&◌, if◌then◌else◌}
use Rattle.std.specs.List.{list_any}
use Rattle.std.proofs.lemmas.Bool.{cases_eq, cases_Bool, eqb-true, eq-eqb, ne_eqb, not-false, false_from_ne_true}
use Rattle.std.proofs.lemmas.List.{set-get_or}
use Rattle.model_core.specs.Blocks.{Block}
use Rattle.model_core.specs.Machine.{Slab, Cache, Machine, slab_block, slab_blocks}
use Rattle.model_core.specs.Slabs.{cache_of, is_full, is_partial, is_empty, zeroed, destroyed}
use Rattle.model_core.specs.Operations.{refuse}
use Rattle.model_core.specs.CacheOperations.{frames_of, destroy_of, destroy_step}
use Rattle.model_core.specs.WellFormed.{RisesFrom}
use Rattle.model_core.specs.declared.limits.TheConstants.{MAX_CACHES}
use Rattle.model_core.specs.declared.refusals.DestroyRefusal.TheVariants.{NoCache, CacheInUse}
use Rattle.model_core.specs.Elements.{IsIn}
use Rattle.model_core.proofs.Lists.{each_from, each_in, none_any, any_none, find_in, filter_rises}
use Rattle.klist_core.specs.Places.{place_at, IsEmpty}
use Rattle.space_core.specs.Content as spaces
use Rattle.buddy_core.specs.Content as buddies
use Rattle.slab_tables.specs.declared.cache.Cache as own
use Rattle.slab_tables.specs.Content.{Content, IsSlabs, IsPlacedIn, kept_at, cache_at, index_of_cache, head_of}
use Rattle.slab_tables.specs.Changes.{with_cache}
use Rattle.machine_changes.specs.Shows.{machine_frame_of, ShowsMachine, Agree, without_slabs}
use Rattle.machine_changes.specs.Keeps.{Spares}
use Rattle.machine_changes.specs.Steady.{IsSteady}
use Rattle.machine_changes.specs.Changes.{IsReturned, kept_slabs, gone_blocks, returned}
use Rattle.machine_changes.proofs.Lookups.{some_none, some_same, at, at_here, at_past, in_found, found_key, found_mapped, found_kept}
use Rattle.machine_changes.proofs.SlabFacts.{cache_shown, slab_of_machine}
use Rattle.machine_changes.proofs.SteadyParts.{in_table, placed_as}
use Rattle.machine_changes.proofs.SlabsByKind.{to_list, from_list}
use Rattle.machine_changes.proofs.SlabsReturned.{returned_shows}
use Rattle.slab_core.specs.Calls.{idle_at, empty_frames_in, IsUnused}
use Rattle.slab_core.proofs.BareCache.{IsBare, cache_others, cache_shows}
use Rattle.slab_core.proofs.GiveWithoutCache.{no_cache}
use Rattle.slab_core.proofs.ReturnEmptySlabs.{this, idle_tells, idle_is, idle_empty}

-- Lists

filter_all : {X : Type 0} (p : X → Bool) (xs : List X) → ((x : X) → IsIn x xs → p x ≡ true) → filter p xs ≡ xs
filter_all p [] all = refl
filter_all p (x ∷ xs) all =
    ap (λ v. cond v (x ∷ filter p xs) (filter p xs)) (all x (inl refl)) ∙ ap (λ ys. x ∷ ys) (filter_all p xs (λ y i. all y (inr i)))

filter_none : {X : Type 0} (p : X → Bool) (xs : List X) → ((x : X) → IsIn x xs → p x ≡ false) → filter p xs ≡ []
filter_none p [] none = refl
filter_none p (x ∷ xs) none =
    ap (λ v. cond v (x ∷ filter p xs) (filter p xs)) (none x (inl refl)) ∙ filter_none p xs (λ y i. none y (inr i))

-- if g returns no blocks for any cache of the list except cache c, the blocks for the whole list are the blocks for cache c
one_only : (g : Cache → List Block) (c k : ℕ) (x : Cache) (xs : List Cache) → RisesFrom k (map (λ y. y.number) xs) → at (λ y. y.number) c xs ≡ Some x
    → ((y : Cache) → IsIn y xs → y.number ≢ c → g y ≡ []) → flat_map g xs ≡ g x
one_only g c k x [] rises e none = absurd (some_none (sym e))
one_only g c k x (y ∷ ys) (low, rises) e none = ⊎_elim here (past (one_only g c (y.number + 1) x ys rises)) (cases_eq y.number c)
  where
    rest : (n : ℕ) (zs : List Cache) → RisesFrom n (map (λ z. z.number) zs) → c < n → ((z : Cache) → IsIn z zs → z.number ≢ c → g z ≡ []) → flat_map g zs ≡ []
    rest n [] r less h = refl
    rest n (z ∷ zs) (l, r) less h =
        ap (λ bs. bs ++ flat_map g zs) (h z (inl refl) (λ same. absurd (omega arith))) ∙ rest (z.number + 1) zs r (omega arith) (λ w i. h w (inr i))

    here : y.number ≡ c → flat_map g (y ∷ ys) ≡ g x
    here same =
        let is : y ≡ x = some_same (sym (at_here (λ z. z.number) c y ys same) ∙ e) in
        ap (λ bs. g y ++ bs) (rest (y.number + 1) ys rises (omega arith) (λ w i. none w (inr i))) ∙ append-nil (g y) ∙ ap g is

    past : (at (λ z. z.number) c ys ≡ Some x → ((z : Cache) → IsIn z ys → z.number ≢ c → g z ≡ []) → flat_map g ys ≡ g x) → (y.number ≡ c → ⊥)
        → flat_map g (y ∷ ys) ≡ g x
    past more differ =
        ap (λ bs. bs ++ flat_map g ys) (none y (inl refl) differ) ∙ more (sym (at_past (λ z. z.number) c y ys differ) ∙ e) (λ z i. none z (inr i))

-- a cache whose three lists are empty has no slab
pub bare_of : (s : Content) (t c : ℕ) → IsUnused s t c → IsEmpty s.lists.places (head_of t c 2) → IsBare s (index_of_cache t c)
bare_of s t c unused empty n head key placed index =
    let at_kind : (k : ℕ) → head % 3 ≡ k → place_at s.lists.places n ≡ Some (head_of t c k, key) =
    λ k kind. placed ∙ ap (λ (x : ℕ). Some (x, key)) (let whole : head ≡ head_of t c k = omega arith in whole) in
    ⊎_elim (λ full. unused.0 n key (at_kind 0 full))
    (λ rest. ⊎_elim (λ partial. unused.1 n key (at_kind 1 partial)) (λ last. empty n key (at_kind 2 (omega arith))) (cases_eq (head % 3) 1))
    (cases_eq (head % 3) 0)

pub unplaced : (s : Content) (t c : ℕ) → IsBare s (index_of_cache t c) → (first machine_frame : ℕ) → IsPlacedIn s t c first machine_frame → ⊥
unplaced s t c none first machine_frame p =
    let kind = p.few in
    let index : head_of t c p.kind / 3 ≡ index_of_cache t c = omega arith in
    none machine_frame (head_of t c p.kind) first p.placed index

module _ (r : spaces.Content) (b : buddies.Content) (s : Content) (t c : ℕ) (w : IsSlabs s) (a : Agree r b s) (m : Machine) (h : ShowsMachine r b s t m) where
  some_kind : (y : Slab) → is_empty y ≡ false → is_full y ≡ false → is_partial y ≡ true
  some_kind y e f = ap (λ v. not v && not (is_empty y)) f ∙ ap not e

  -- in the machine, all slabs of an unused cache are empty
  pub all_empty : IsUnused s t c → (x : Cache) → cache_of m c ≡ Some x → (y : Slab) → IsIn y x.slabs → is_empty y ≡ true
  all_empty unused x ex y i = ⊎_elim (λ e. e) (λ e. ⊎_elim
      (λ full. absurd (let l = to_list r b s w a t c 0 (omega arith) m x h ex y i full in unused.0 l.machine_frame y.first l.place))
      (λ none. absurd (let l = to_list r b s w a t c 1 (omega arith) m x h ex y i (some_kind y e none) in unused.1 l.machine_frame y.first l.place))
      (cases_Bool (is_full y))) (cases_Bool (is_empty y))

  -- if no slab of cache c in the machine has a live object, cache c is unused in the tables
  pub unused_of : (x : Cache) → cache_of m c ≡ Some x → list_any (λ y. not (is_empty y)) x.slabs ≡ false → IsUnused s t c
  unused_of x ex none = (not_kind 0 (omega arith), not_kind 1 (omega arith))
    where
      under : (k n key : ℕ) → k < 3 → place_at s.lists.places n ≡ Some (head_of t c k, key) → machine_frame_of s.top r.slots (index_of_cache t c / MAX_CACHES) key ≡ Some n
      under k n key less placed =
          let there = w.standing n (head_of t c k) key placed in
          let tenant : head_of t c k / 3 / MAX_CACHES ≡ index_of_cache t c / MAX_CACHES = omega arith in
          subst (λ u. machine_frame_of s.top r.slots u key ≡ Some n) tenant (a.slabs n (head_of t c k) key there.0 placed there.1).under

      not_kind : (k : ℕ) → k < 2 → IsEmpty s.lists.places (head_of t c k)
      not_kind k less n key placed =
          let is = from_list r b s w a t c k (omega arith) m x h ex key n placed in
          let y = is.slab in
          let empty : is_empty y ≡ true = not-false (is_empty y) (each_in (λ z. not (is_empty z) ≡ false) y x.slabs (none_any (λ z. not (is_empty z)) x.slabs none) is.listed) in
          let l = to_list r b s w a t c 2 (omega arith) m x h ex y is.listed empty in
          let place : place_at s.lists.places l.machine_frame ≡ Some (head_of t c 2, key) = l.place ∙ ap (λ (f : ℕ). Some (head_of t c 2, f)) is.begins in
          let machine_frame : l.machine_frame ≡ n = some_same (sym (under 2 l.machine_frame key (omega arith) place) ∙ under k n key (omega arith) placed) in
          let same : head_of t c k ≡ head_of t c 2 = ap (λ (q : ℕ × ℕ). q.0)
          (some_same (sym placed ∙ ap (place_at s.lists.places) (sym machine_frame) ∙ place)) in
          omega arith

-- The results of `destroy_step`

step_none : (c : ℕ) (m : Machine) → cache_of m c ≡ None → destroy_step c m ≡ refuse NoCache m
unfolding destroy_step
step_none c m e = ap (destroy_of m) e

step_used : (c : ℕ) (m : Machine) (x : Cache) → cache_of m c ≡ Some x → list_any (λ y. not (is_empty y)) x.slabs ≡ true → destroy_step c m ≡ refuse CacheInUse m
unfolding destroy_step
step_used c m x e some =
    ap (destroy_of m) e
    ∙ ap (λ (v : Bool). if v then refuse CacheInUse m else record { answer = Ok (frames_of (slab_blocks x)); machine = destroyed x m }) some

step_done : (c : ℕ) (m : Machine) (x : Cache) → cache_of m c ≡ Some x → list_any (λ y. not (is_empty y)) x.slabs ≡ false
    → destroy_step c m ≡ record { answer = Ok (frames_of (slab_blocks x)); machine = destroyed x m }
unfolding destroy_step
step_done c m x e none =
    ap (destroy_of m) e
    ∙ ap (λ (v : Bool). if v then refuse CacheInUse m else record { answer = Ok (frames_of (slab_blocks x)); machine = destroyed x m }) none

-- if tenant t has no cache c, `destroy_step` refuses with `NoCache`
pub no_cache_step : (r : spaces.Content) (b : buddies.Content) (s : Content) (t c : ℕ) (m : Machine) → ShowsMachine r b s t m → cache_at s t c ≡ None
    → destroy_step c m ≡ refuse NoCache m
no_cache_step r b s t c m h vacant = step_none c m (no_cache r b s t c m h vacant)

-- the index of cache c of a tenant lies within the table of caches
pub among_all : (r : spaces.Content) (b : buddies.Content) (s : Content) (t c : ℕ) → Agree r b s → t < length r.slots → c < MAX_CACHES
    → index_of_cache t c < length s.caches
among_all r b s t c a tenant small =
    let rows = a.rows in
    let tables = a.tenants in
    omega arith

-- cache c of tenant t has no slab, and its index lies within the table of caches
pub record IsLeft (s : Content) (t c : ℕ) : Type 0 where
  pub bare : IsBare s (index_of_cache t c)
  pub small : c < MAX_CACHES
  pub within : index_of_cache t c < length s.caches

pub left_of : {r r' : spaces.Content} {b b' : buddies.Content} {s s' : Content} {t : ℕ} (c : ℕ) {cache : own.Cache} → cache_at s t c ≡ Some cache
    → t < length r.slots → Spares t r r' b b' s s' → Agree r' b' s' → IsUnused s t c → IsEmpty s'.lists.places (head_of t c 2)
    → ((head : ℕ) → IsEmpty s.lists.places head → IsEmpty s'.lists.places head) → IsLeft s' t c
left_of {r' = r'} {b' = b'} {s = s} {s' = s'} {t = t} c {cache = cache} cached tenant spares agree unused empty less =
    let small = (in_table s t c cache cached).number in
    record {
      bare = bare_of s' t c (less (head_of t c 0) unused.0, less (head_of t c 1) unused.1) empty;
      small = small;
      within = among_all r' b' s' t c agree (subst (λ n. t < n) (sym (ap (λ x. length x.slots) spares.space)) tenant) small;
    }

-- `frames` is the answer of `destroy_step`. Once the entry of cache c is removed, the parts show the machine after
-- `destroy_step`.
pub record IsDestroyed (r : spaces.Content) (b : buddies.Content) (s : Content) (t c : ℕ) (m : Machine) (frames : ℕ) : Type 0 where
  pub answer : Ok frames ≡ (destroy_step c m).answer
  pub shown : ShowsMachine r b (with_cache s t c None) t (destroy_step c m).machine

module _ {r : spaces.Content} {b : buddies.Content} {s : Content} {t : ℕ} (c : ℕ) {cache : own.Cache} (w : IsSlabs s) (a : Agree r b s) (st : IsSteady r b s t)
    (cached : cache_at s t c ≡ Some cache) where
  -- if cache c of tenant t is in use, `destroy_step` refuses with `CacheInUse`
  pub used_step : (IsUnused s t c → ⊥) → (m : Machine) → ShowsMachine r b s t m → destroy_step c m ≡ refuse CacheInUse m
  used_step used m h =
      let there = cache_shown r b s t m h c cache cached in
      step_used c m there.shown there.cached
      (⊎_elim (λ e. e) (λ e. absurd (used (unused_of r b s t c w a m h there.shown there.cached e))) (cases_Bool (list_any (λ y. not (is_empty y)) there.shown.slabs)))

  abbrev gone : ℕ → Bool
  gone = idle_at (this t c) r s t

  module _ (unused : IsUnused s t c) {r' : spaces.Content} {b' : buddies.Content} {s' : Content} (is_left : IsLeft s' t c) (k : IsReturned r r' b b' s s' t gone)
      (m : Machine) (h : ShowsMachine r b s t m) where
    mine : (x : Cache) (y : Slab) → cache_of m c ≡ Some x → IsIn y x.slabs → gone y.first ≡ true
    mine x y ex i =
        let is = slab_of_machine r b s t m h c y.first x y ex (in_found (λ z. z.first) 0 y x.slabs (h.slabs_rise c x ex) i) in
        let p = placed_as r s t c y.first is.machine_frame is.kept is.slab in
        let any = idle_tells (λ z. true) r s t y.first
        (idle_empty r b s t m w a h c y.first x y ex (in_found (λ z. z.first) 0 y x.slabs (h.slabs_rise c x ex) i)
        ∙ all_empty r b s t c w a m h unused x ex y i) in
        let machine_frame : any.machine_frame ≡ is.machine_frame = some_same (sym any.under ∙ is.slab.under) in
        idle_is (this t c) r s t y.first is.machine_frame p.head y.first is.slab.under p.place (eq-eqb (p.head / 3) (index_of_cache t c) p.index)
        (ap (λ n. (kept_at s.kept n).live) (sym machine_frame) ∙ any.empty)

    others : (z : Cache) (y : Slab) → IsIn z m.caches → z.number ≢ c → IsIn y z.slabs → gone y.first ≡ false
    others z y i differ j = false_from_ne_true (gone y.first) (λ e.
        let ez : cache_of m z.number ≡ Some z = in_found (λ v. v.number) 0 z m.caches h.caches_rise i in
        let is = slab_of_machine r b s t m h z.number y.first z y ez (in_found (λ v. v.first) 0 y z.slabs (h.slabs_rise z.number z ez) j) in
        let p = placed_as r s t z.number y.first is.machine_frame is.kept is.slab in
        let idle = idle_tells (this t c) r s t y.first e in
        let machine_frame : idle.machine_frame ≡ is.machine_frame = some_same (sym idle.under ∙ is.slab.under) in
        let head : idle.head ≡ p.head = ap (λ (q : ℕ × ℕ). q.0) (some_same (sym idle.place ∙ ap (place_at s.lists.places) machine_frame ∙ p.place)) in
        let index : idle.head / 3 ≡ index_of_cache t c = eqb-true (idle.head / 3) (index_of_cache t c) idle.one in
        let index' : p.head / 3 ≡ index_of_cache t z.number = p.index in
        let both : idle.head / 3 ≡ p.head / 3 = ap (λ n. n / 3) head in
        differ (omega arith))

    kept_same : (z : Cache) → IsIn z m.caches → z.number ≢ c → kept_slabs gone z ≡ z
    kept_same z i differ = ap (λ ys. record z { slabs = ys }) (filter_all (λ y. not (gone y.first)) z.slabs (λ y j. ap not (others z y i differ j)))

    module _ (x : Cache) (ex : cache_of m c ≡ Some x) where
      blocks_same : flat_map (gone_blocks gone) m.caches ≡ slab_blocks x
      blocks_same =
          one_only (gone_blocks gone) c 0 x m.caches h.caches_rise ex
          (λ z i differ. ap (map (slab_block z)) (filter_none (λ y. gone y.first) z.slabs (λ y j. others z y i differ j)))
          ∙ ap (map (slab_block x)) (filter_all (λ y. gone y.first) x.slabs (λ y j. mine x y ex j))

      abbrev left : List Cache
      left = filter (λ z. not (eqb z.number x.number)) m.caches

      number : x.number ≡ c
      number = found_key (λ z. z.number) c m.caches x ex

      left_at : (d : ℕ) → at (λ z. z.number) d left ≡ cond (eqb d x.number) None (cache_of m d)
      left_at d = found_kept (λ z. z.number) (λ n. eqb n x.number) d m.caches

      left_here : at (λ z. z.number) c left ≡ None
      left_here = left_at c ∙ ap (λ v. cond v None (cache_of m c)) (eq-eqb c x.number (sym number))

      kept_other : (d : ℕ) (o : Option Cache) → cache_of m d ≡ o → d ≢ c → o ≡ option_map (kept_slabs gone) o
      kept_other d None e differ = refl
      kept_other d (Some z) e differ =
          let z_in = (find_in (λ v. eqb v.number d) z m.caches e).0 in
          let is : z.number ≡ d = found_key (λ v. v.number) d m.caches z e in
          ap (λ v. Some v) (sym (kept_same z z_in (λ same. differ (sym is ∙ same))))

      left_there : (d : ℕ) → d ≢ c → at (λ z. z.number) d left ≡ cache_of (returned gone m) d
      left_there d differ =
          left_at d ∙ ap (λ v. cond v None (cache_of m d)) (ne_eqb d x.number (λ e. differ (e ∙ number)))
          ∙ kept_other d (cache_of m d) refl differ
          ∙ sym (found_mapped (λ z. z.number) (kept_slabs gone) d m.caches (λ z. refl))

      pub destroyed_shows : ShowsMachine r' b' (with_cache s' t c None) t (destroyed x m)
      unfolding destroyed
      destroyed_shows =
          subst (λ bs. ShowsMachine r' b' (with_cache s' t c None) t (record m { caches = left; bytes = zeroed bs m.bytes })) blocks_same
          (cache_shows s' t c None is_left.small is_left.within is_left.bare r' b' (returned gone m)
          (returned_shows r r' b b' s s' t gone m k st h) left
          (filter_rises (λ z. z.number) (λ z. not (eqb z.number x.number)) 0 m.caches h.caches_rise)
          (ap (option_map without_slabs) left_here)
          (λ z e. absurd (some_none (sym e ∙ left_here)))
          left_there)

      frames_same : empty_frames_in (cache_of m c) ≡ frames_of (slab_blocks x)
      frames_same =
          ap empty_frames_in ex
          ∙ ap (λ ys. frames_of (map (slab_block x) ys)) (filter_all is_empty x.slabs (λ y i. all_empty r b s t c w a m h unused x ex y i))

      none_live : list_any (λ y. not (is_empty y)) x.slabs ≡ false
      none_live =
          any_none (λ y. not (is_empty y)) x.slabs
          (each_from (λ y. not (is_empty y) ≡ false) x.slabs (λ y i. ap not (all_empty r b s t c w a m h unused x ex y i)))

      done : (frames : ℕ) → frames ≡ empty_frames_in (cache_of m c) → IsDestroyed r' b' s' t c m frames
      done frames e =
          let step = step_done c m x ex none_live in
          record {
            answer = ap (λ n. Ok n) (e ∙ frames_same) ∙ sym (ap (λ z. z.answer) step);
            shown = subst (λ z. ShowsMachine r' b' (with_cache s' t c None) t z.machine) (sym step) destroyed_shows;
          }

    pub destroyed_as : (frames : ℕ) → frames ≡ empty_frames_in (cache_of m c) → IsDestroyed r' b' s' t c m frames
    destroyed_as frames e = let there = cache_shown r b s t m h c cache cached in done there.shown there.cached frames e

-- removing the cache's entry changes nothing that other tenants have
pub spares_entry : (r : spaces.Content) (b : buddies.Content) {s : Content} {t c : ℕ} → IsLeft s t c → Spares t r r b b s (with_cache s t c None)
spares_entry r b {s = s} {t = t} {c = c} left = record {
  others = cache_others s t c None left.small left.within r b;
  space = refl;
  spare = λ m none. refl;
  buddy = ap (λ x. record b { tenants = x }) (sym (set-get_or b.tenants t buddies.no_tenant));
}
