-- If the live flag of one object is changed, the promises see no change of another object.
use Rattle.std.proofs.Common.{◌≡◌, ℕ, ◌<◌, Bool, true, false, eqb, List, [], ◌∷◌, map, length, get_or, refl, sym, ap, ◌∙◌, subst, ◌⊎◌, inl, inr, arith}
use Rattle.std.specs.Prelude.{if◌then◌else◌, slice_set, Contains}
use Rattle.std.proofs.Math.ListN.{length-set}
use Rattle.std.proofs.lemmas.List.{get_or-set_same, get_or-set_other}
use Rattle.std.proofs.lemmas.Bool.{cases_eq, eqb-true, eqb-false, eq-eqb, ne_eqb}
use Rattle.model_core.specs.Layouts.{object_place}
use Rattle.model_core.specs.Machine.{Slab, Cache, Machine, layout}
use Rattle.model_core.specs.Slabs.{with_cache, with_slab, with_live}
use Rattle.model_core.specs.WellFormed.{IsCache, IsWellFormed}
use Rattle.model_core.specs.Laws.{Object, IsObject, place_of}
use Rattle.model_core.proofs.Layouts.{layouts_fit}
use Rattle.model_core.specs.Elements.{IsIn}
use Rattle.model_core.proofs.Lists.{each_in}
use Rattle.model_core.proofs.ObjectsApart.{contains_in, one_key, objects_apart, in_contains}
use Rattle.promise_core.specs.Holdings.{KnownCache}
use Rattle.promise_kept.specs.Meets.{cache_as_known}
use Rattle.promise_kept.proofs.LiveObjects.{IsSlab, slabs_of, IsLivePlace}

-- One element replaced

pub replaced_is : {X : Type 0} (key : X → ℕ) (t x : X) (xs : List X) → IsIn x (map (λ y. if eqb (key y) (key t) then t else y) xs) → (t ≡ x) ⊎ (IsIn x xs × (eqb (key x) (key t) ≡ false))
replaced_is key t x [] i = elim i [ ]
replaced_is {X} key t x (y ∷ ys) i = go (eqb (key y) (key t)) refl i (replaced_is key t x ys)
  where
    later : (t ≡ x) ⊎ (IsIn x ys × (eqb (key x) (key t) ≡ false)) → (t ≡ x) ⊎ (IsIn x (y ∷ ys) × (eqb (key x) (key t) ≡ false))
    later (inl e) = inl e
    later (inr r) = inr (inr r.0, r.1)

    go : (b : Bool) → eqb (key y) (key t) ≡ b → IsIn x ((if b then t else y) ∷ map (λ y. if eqb (key y) (key t) then t else y) ys)
        → (IsIn x (map (λ y. if eqb (key y) (key t) then t else y) ys) → (t ≡ x) ⊎ (IsIn x ys × (eqb (key x) (key t) ≡ false)))
        → (t ≡ x) ⊎ (IsIn x (y ∷ ys) × (eqb (key x) (key t) ≡ false))
    go true e (inl same) rest = inl same
    go false e (inl same) rest = inr (inl same, subst (λ z. eqb (key z) (key t) ≡ false) same e)
    go b e (inr j) rest = later (rest j)

pub replaced_other : {X : Type 0} (key : X → ℕ) (t x : X) (xs : List X) → IsIn x xs → eqb (key x) (key t) ≡ false → IsIn x (map (λ y. if eqb (key y) (key t) then t else y) xs)
replaced_other key t x [] i e = elim i [ ]
replaced_other key t x (y ∷ ys) (inl same) e = inl (ap (λ b. if b then t else y) (ap (λ z. eqb (key z) (key t)) same ∙ e) ∙ same)
replaced_other key t x (y ∷ ys) (inr i) e = inr (replaced_other key t x ys i e)

pub replaced_one : {X : Type 0} (key : X → ℕ) (t x : X) (xs : List X) → IsIn x xs → key x ≡ key t → IsIn t (map (λ y. if eqb (key y) (key t) then t else y) xs)
replaced_one key t x [] i e = elim i [ ]
replaced_one key t x (y ∷ ys) (inl same) e = inl (ap (λ b. if b then t else y) (eq-eqb (key y) (key t) (ap key same ∙ e)))
replaced_one key t x (y ∷ ys) (inr i) e = inr (replaced_one key t x ys i e)

-- Two objects of a cache that begin at the same place are the same

pub record IsOne (s t : Slab) (i j : ℕ) : Type 0 where
  pub slab : s ≡ t
  pub index : i ≡ j

pub one_place : {limit : ℕ} (order : ℕ) (c : Cache) (m : Machine) → IsWellFormed limit order m → IsIn c m.caches → (s t : Slab) (i j : ℕ) → IsIn s c.slabs → IsIn t c.slabs
    → i < (layout c).count → j < (layout c).count → object_place (layout c) s.first s.colour i ≡ object_place (layout c) t.first t.colour j → IsOne s t i j
one_place {limit} order c m w in_c s t i j in_s in_t lt lt' e =
    let h : IsCache c = each_in IsCache c m.caches w.caches in_c in
    let some : 0 < c.size = (layouts_fit c.size c.align h.sized h.aligned).sized in
    let a : Object = record { cache = c; slab = s; index = i } in
    let b : Object = record { cache = c; slab = t; index = j } in
    let same : a ≡ b = objects_apart limit order m w a b
    (record { cache_in = in_contains c m.caches in_c; slab_in = in_contains s c.slabs in_s; index_in = lt })
    (record { cache_in = in_contains c m.caches in_c; slab_in = in_contains t c.slabs in_t; index_in = lt' })
    (place_of a) (omega arith, omega (arith, some)) (omega (arith, e), omega (arith, e, some)) in
    record { slab = ap (λ o. o.slab) same; index = ap (λ o. o.index) same }

-- Machine m has an object with the first place of object o. The cache of that object has the number, size and pattern of the
-- cache of o.
pub record WasObject (m : Machine) (o : Object) : Type 0 where
  pub was : Object
  pub object : IsObject m was
  pub number : was.cache.number ≡ o.cache.number
  pub size : was.cache.size ≡ o.cache.size
  pub pattern : was.cache.pattern ≡ o.cache.pattern
  pub place : place_of was ≡ place_of o

-- The live flag of object i of slab s is set to b

module _ (limit order : ℕ) (c : Cache) (s : Slab) (i : ℕ) (b : Bool) (m : Machine) (w : IsWellFormed limit order m) (in_c : IsIn c m.caches) (in_s : IsIn s c.slabs) (lt : i < (layout c).count) where
  slabs : (t : Slab) → IsIn t c.slabs → IsSlab c t
  slabs t k = each_in (IsSlab c) t c.slabs (slabs_of c (each_in IsCache c m.caches w.caches in_c)) k

  within : (t : Slab) (j : ℕ) → IsIn t c.slabs → j < length t.live → j < (layout c).count
  within t j k l = let h : IsSlab c t = slabs t k in omega (arith, h.count, l)

  -- If a live object begins at u after the change, there are two cases. Either u is the place of object i and b is true, or u is
  -- another place and a live object began at u before the change.
  pub live_after : (u : ℕ) → IsLivePlace (with_slab (with_live i b s) c) u
      → ((b ≡ true) × (u ≡ object_place (layout c) s.first s.colour i)) ⊎ (IsLivePlace c u × (u ≡ object_place (layout c) s.first s.colour i → ⊥))
  live_after u l = go (replaced_is (λ x. x.first) (with_live i b s) l.slab c.slabs l.slab_in)
    where
      other : (t : Slab) → IsIn t c.slabs → (j : ℕ) → j < length t.live → (IsOne t s j i → ⊥) → u ≡ object_place (layout c) t.first t.colour j → u ≡ object_place (layout c) s.first s.colour i → ⊥
      other t in_t j l ne at e = ne (one_place order c m w in_c t s j i in_t in_s (within t j in_t l) lt (sym at ∙ e))

      flagged : (t : Slab) → with_live i b s ≡ t → l.slab ≡ t → (l.index ≡ i) ⊎ (l.index ≡ i → ⊥)
          → ((b ≡ true) × (u ≡ object_place (layout c) s.first s.colour i)) ⊎ (IsLivePlace c u × (u ≡ object_place (layout c) s.first s.colour i → ⊥))
      flagged t e f (inl same) =
          let flags : l.slab.live ≡ slice_set s.live i b = ap (λ x. x.live) (f ∙ sym e) in
          let count : length s.live ≡ (layout c).count = (slabs s in_s).count in
          inl (
            sym (get_or-set_same s.live i b false (omega (arith, lt, count))) ∙ (sym (ap (λ xs. get_or xs i false) flags) ∙ (ap (λ k. get_or l.slab.live k false) (sym same) ∙ l.live)),
            l.at ∙ (ap (λ x. object_place (layout c) x.first x.colour l.index) (f ∙ sym e) ∙ ap (λ k. object_place (layout c) s.first s.colour k) same),
          )
      flagged t e f (inr differ) =
          let flags : l.slab.live ≡ slice_set s.live i b = ap (λ x. x.live) (f ∙ sym e) in
          let long : l.index < length s.live = subst (λ n. l.index < n) (ap length flags ∙ length-set {A = Bool} s.live i b) l.index_in in
          let at : u ≡ object_place (layout c) s.first s.colour l.index = l.at ∙ ap (λ x. object_place (layout c) x.first x.colour l.index) (f ∙ sym e) in
          inr (
            record { slab = s; index = l.index; slab_in = in_s; index_in = long; live = sym (get_or-set_other s.live i l.index b false differ) ∙ (ap (λ xs. get_or xs l.index false) (sym flags) ∙ l.live); at = at },
            other s in_s l.index long (λ one. differ one.index) at,
          )

      go : (with_live i b s ≡ l.slab) ⊎ (IsIn l.slab c.slabs × (eqb l.slab.first s.first ≡ false))
          → ((b ≡ true) × (u ≡ object_place (layout c) s.first s.colour i)) ⊎ (IsLivePlace c u × (u ≡ object_place (layout c) s.first s.colour i → ⊥))
      go (inl e) = flagged l.slab e refl (cases_eq l.index i)
      go (inr r) = inr (
        record { slab = l.slab; index = l.index; slab_in = r.0; index_in = l.index_in; live = l.live; at = l.at },
        other l.slab r.0 l.index l.index_in (λ one. eqb-false l.slab.first s.first r.1 (ap (λ x. x.first) one.slab)) l.at,
      )

  pub live_other : (u : ℕ) → IsLivePlace c u → (u ≡ object_place (layout c) s.first s.colour i → ⊥) → IsLivePlace (with_slab (with_live i b s) c) u
  live_other u l ne = go (cases_eq l.slab.first s.first)
    where
      go : (l.slab.first ≡ s.first) ⊎ (l.slab.first ≡ s.first → ⊥) → IsLivePlace (with_slab (with_live i b s) c) u
      go (inl e) =
          let h : IsCache c = each_in IsCache c m.caches w.caches in_c in
          let same : l.slab ≡ s = one_key (λ x. x.first) 0 c.slabs l.slab s h.slabs_rise l.slab_in in_s e in
          let differ : l.index ≡ i → ⊥ = λ k. ne (l.at ∙ (ap (λ x. object_place (layout c) x.first x.colour l.index) same ∙ ap (λ j. object_place (layout c) s.first s.colour j) k)) in
          record {
            slab = with_live i b s;
            index = l.index;
            slab_in = replaced_one (λ x. x.first) (with_live i b s) s c.slabs in_s refl;
            index_in = subst (λ n. l.index < n) (ap (λ x. length x.live) same ∙ sym (length-set {A = Bool} s.live i b)) l.index_in;
            live = get_or-set_other s.live i l.index b false differ ∙ (ap (λ x. get_or x.live l.index false) (sym same) ∙ l.live);
            at = l.at ∙ ap (λ x. object_place (layout c) x.first x.colour l.index) same;
          }
      go (inr differ) = record {
        slab = l.slab;
        index = l.index;
        index_in = l.index_in;
        live = l.live;
        at = l.at;
        slab_in = replaced_other (λ x. x.first) (with_live i b s) l.slab c.slabs l.slab_in (ne_eqb l.slab.first s.first differ);
      }

  pub live_this : b ≡ true → IsLivePlace (with_slab (with_live i b s) c) (object_place (layout c) s.first s.colour i)
  live_this e =
      let count : length s.live ≡ (layout c).count = (slabs s in_s).count in
      record {
        slab = with_live i b s;
        index = i;
        slab_in = replaced_one (λ x. x.first) (with_live i b s) s c.slabs in_s refl;
        index_in = subst (λ n. i < n) (sym (length-set {A = Bool} s.live i b)) (omega (arith, lt, count));
        live = get_or-set_same s.live i b false (omega (arith, lt, count)) ∙ e;
        at = refl;
      }

  in_cache : (o : Object) → IsIn o.slab c.slabs → o.index < (layout c).count → IsObject m (record { cache = c; slab = o.slab; index = o.index })
  in_cache o j l = record { cache_in = in_contains c m.caches in_c; slab_in = in_contains o.slab c.slabs j; index_in = l }

  pub was_object : (o : Object) → IsObject (with_cache (with_slab (with_live i b s) c) m) o → WasObject m o
  was_object o h = go (replaced_is (λ x. x.number) (with_slab (with_live i b s) c) o.cache m.caches (contains_in _ o.cache h.cache_in))
    where
      slab : with_slab (with_live i b s) c ≡ o.cache → (with_live i b s ≡ o.slab) ⊎ (IsIn o.slab c.slabs × (eqb o.slab.first s.first ≡ false)) → WasObject m o
      slab e (inl f) = record {
        was = record { cache = c; slab = s; index = o.index };
        object = record { cache_in = in_contains c m.caches in_c; slab_in = in_contains s c.slabs in_s; index_in = subst (λ x. o.index < (layout x).count) (sym e) h.index_in };
        number = ap (λ x. x.number) e;
        size = ap (λ x. x.size) e;
        pattern = ap (λ x. x.pattern) e;
        place = ap (λ x. object_place (layout x) s.first s.colour o.index) e ∙ ap (λ x. object_place (layout o.cache) x.first x.colour o.index) f;
      }
      slab e (inr r) = record {
        was = record { cache = c; slab = o.slab; index = o.index };
        object = in_cache o r.0 (subst (λ x. o.index < (layout x).count) (sym e) h.index_in);
        number = ap (λ x. x.number) e;
        size = ap (λ x. x.size) e;
        pattern = ap (λ x. x.pattern) e;
        place = ap (λ x. object_place (layout x) o.slab.first o.slab.colour o.index) e;
      }

      go : (with_slab (with_live i b s) c ≡ o.cache) ⊎ (IsIn o.cache m.caches × (eqb o.cache.number c.number ≡ false)) → WasObject m o
      go (inl e) = slab e (replaced_is (λ x. x.first) (with_live i b s) o.slab c.slabs (contains_in _ o.slab (subst (λ x. Contains x.slabs o.slab) (sym e) h.slab_in)))
      go (inr r) = record {
        was = o;
        object = record { cache_in = in_contains o.cache m.caches r.0; slab_in = h.slab_in; index_in = h.index_in };
        number = refl;
        size = refl;
        pattern = refl;
        place = refl;
      }

-- a known cache after `change` is applied to its live objects
abbrev pub with_places : (List ℕ → List ℕ) → KnownCache → KnownCache
with_places change c = record c { live = change c.live }

pub caches_known : (number : ℕ) (change : List ℕ → List ℕ) (c d : Cache) (cs : List Cache) → d.number ≡ number → ((x : Cache) → IsIn x cs → x.number ≡ number → x ≡ c)
    → with_places change (cache_as_known c) ≡ cache_as_known d
    → map (λ x. if eqb x.number number then with_places change x else x) (map cache_as_known cs) ≡ map cache_as_known (map (λ x. if eqb x.number d.number then d else x) cs)
caches_known number change c d [] e one same = refl
caches_known number change c d (x ∷ xs) e one same = both (go (eqb x.number number) refl) (caches_known number change c d xs e (λ y i. one y (inr i)) same)
  where
    both : {a b : KnownCache} {us vs : List KnownCache} → a ≡ b → us ≡ vs → a ∷ us ≡ b ∷ vs
    both p q = cc

    go : (b : Bool) → eqb x.number number ≡ b → (if eqb x.number number then with_places change (cache_as_known x) else cache_as_known x) ≡ cache_as_known (if eqb x.number d.number then d else x)
    go true t =
        let is : x ≡ c = one x (inl refl) (eqb-true x.number number t) in
        ap (λ b. if b then with_places change (cache_as_known x) else cache_as_known x) t
        ∙ (ap (λ y. with_places change (cache_as_known y)) is
        ∙ (same ∙ sym (ap (λ b. cache_as_known (if b then d else x)) (eq-eqb x.number d.number (eqb-true x.number number t ∙ sym e)))))
    go false t =
        ap (λ b. if b then with_places change (cache_as_known x) else cache_as_known x) t
        ∙ sym (ap (λ b. cache_as_known (if b then d else x)) (ne_eqb x.number d.number (λ k. eqb-false x.number number t (k ∙ e))))
