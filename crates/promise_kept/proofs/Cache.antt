-- A command for a new cache keeps the promises.
use Rattle.std.proofs.Common.{◌≡◌, ◌≢◌, ℕ, suc, ◌+◌, ◌-◌, ◌*◌, ◌%◌, ◌^◌, ◌<◌, ◌≤◌, Bool, true, false, not, ◌&&◌, eqb, ltb, leb, List, [], ◌∷◌, map, length, Option, Some, None, refl, sym, ap, ◌∙◌, subst, inl, inr, arith}
use Rattle.std.specs.Prelude.{if◌then◌else◌, Result, is_none, find}
use Rattle.std.specs.List.{list_any, AllByRecursion as Each}
use Rattle.std.proofs.Math.Nat.{zero-mod, mod-eq_of_lt}
use Rattle.std.proofs.lemmas.Bool.{and_from, leb-true, leb-false, le-leb, lt-ltb, eq-eqb, false_from_ne_true, ne_eqb}
use Rattle.arrayvec.specs.ArrayVec.{ArrayVec}
use Rattle.model_core.specs.declared.refusals.CacheRefusal.{CacheRefusal}
use Rattle.model_core.specs.Layouts.{Layout, layout_of, is_size, is_alignment, IsLayout}
use Rattle.model_core.specs.Machine.{Slab, Cache, Machine, put_rising, least_missing}
use Rattle.model_core.specs.Operations.{Step, refuse}
use Rattle.model_core.specs.CacheOperations.{created, next_number, create_step, cache_answer, cache_step}
use Rattle.model_core.specs.WellFormed.{RisesFrom, IsWellFormed}
use Rattle.model_core.specs.Elements.{IsIn}
use Rattle.model_core.proofs.Lists.{in_put, any_with, each_map, least_is_missing}
use Rattle.model_core.proofs.LaidSlabs.{in_slab_laid, in_laid}
use Rattle.model_core.proofs.ObjectsApart.{contains_in, in_contains}
use Rattle.model_core.proofs.PageSteps.{created_laid}
use Rattle.promise_core.specs.Holdings.{KnownCache, Holdings, known_cache}
use Rattle.promise_core.specs.Bytes.{Holder}
use Rattle.promise_core.specs.State.{State, state_after}
use Rattle.promise_kept.specs.Meets.{cache_as_known, holdings_of, is_object_live, Meets, IsKeptBy, IsPromiseKept}
use Rattle.std.proofs.lemmas.List.{length-map}
use Rattle.model_core.proofs.Layouts.{layouts_fit}
use Rattle.words_core.specs.declared.event.Event.TheVariants as On
use Rattle.words_core.specs.declared.event.Command.TheVariants as Command
use Rattle.words_core.specs.declared.reply.Addressee.TheVariants as To
use Rattle.words_core.specs.declared.reply.Body.TheVariants as Say
use Rattle.words_core.specs.declared.reply.Refusal.{Refusal}
use Rattle.world_core.specs.PrivateStep.{cache_body, command_step}
use Rattle.promise_core.specs.Promises.{due}
use Rattle.promise_kept.proofs.PlaceCells.{all_kept, formed, refused}

-- The smallest number that no cache has

missing_most : (n : ℕ) (xs : List ℕ) → least_missing n xs ≤ n + length xs
missing_most n [] = omega arith
missing_most n (x ∷ xs) = go (eqb x n) (missing_most (n + 1) xs)
  where
    go : (b : Bool) → least_missing (n + 1) xs ≤ n + 1 + length xs → (if b then least_missing (n + 1) xs else n) ≤ n + suc (length xs)
    go true le = omega arith
    go false le = omega arith

-- an ascending list of numbers that are at least n and below `limit` has at most limit - n elements
few_below : (n limit : ℕ) (xs : List ℕ) → n ≤ limit → RisesFrom n xs → Each (λ x. x < limit) xs → n + length xs ≤ limit
few_below n limit [] le r each = omega arith
few_below n limit (x ∷ xs) le (l, r) (b, each) = let rest = few_below (x + 1) limit xs (omega arith) r each in omega (arith, rest, l)

-- if cache c is put among the caches by its number, `cache_as_known c` is put among the known caches by its number
new_told : (c : Cache) (cs : List Cache) → map cache_as_known (put_rising (λ x. x.number) c cs) ≡ put_rising (λ (x : KnownCache). x.number) (cache_as_known c) (map cache_as_known cs)
new_told c [] = refl
new_told c (d ∷ cs) = go (ltb c.number d.number) (new_told c cs)
  where
    go : (b : Bool) → map cache_as_known (put_rising (λ x. x.number) c cs) ≡ put_rising (λ (x : KnownCache). x.number) (cache_as_known c) (map cache_as_known cs)
        → map cache_as_known (if b then c ∷ (d ∷ cs) else d ∷ put_rising (λ x. x.number) c cs)
        ≡ (if b then cache_as_known c ∷ (cache_as_known d ∷ map cache_as_known cs) else cache_as_known d ∷ put_rising (λ (x : KnownCache). x.number) (cache_as_known c) (map cache_as_known cs))
    go true e = refl
    go false e = ap (λ ts. cache_as_known d ∷ ts) e

missing_all : (n limit : ℕ) (xs : List ℕ) → RisesFrom n xs → Each (λ x. x < limit) xs → limit ≤ n + length xs → least_missing n xs ≡ n + length xs
missing_all n limit [] r each le = omega arith
missing_all n limit (x ∷ xs) (l, r) (b, each) le =
    let few : x + 1 + length xs ≤ limit = few_below (x + 1) limit xs (omega arith) r each in
    let same : x ≡ n = omega (arith, few, le, l) in
    ap (λ t. if t then least_missing (n + 1) xs else n) (eq-eqb x n same)
    ∙ (missing_all (n + 1) limit xs (subst (λ k. RisesFrom (k + 1) xs) same r) each (omega (arith, le)) ∙ omega arith)

-- at least `limit` caches are known exactly if the smallest number that no cache has is at least `limit`
full_seen : (limit order : ℕ) (m : Machine) (s : State) → IsWellFormed limit order m → Meets order s m → leb limit (length s.has.caches) ≡ leb limit (next_number m)
unfolding next_number holdings_of
full_seen limit order m s w h = ap (λ (x : Holdings). leb limit (length x.caches)) h.has ∙ (ap (leb limit) (length-map m.caches cache_as_known) ∙ go (leb limit (least_missing 0 numbers)) refl)
  where
    numbers : List ℕ
    numbers = map (λ c. c.number) m.caches

    many : length numbers ≡ length m.caches
    many = length-map m.caches (λ c. c.number)

    go : (b : Bool) → leb limit (least_missing 0 numbers) ≡ b → leb limit (length m.caches) ≡ leb limit (least_missing 0 numbers)
    go true e = le-leb limit (length m.caches) (omega (arith, many, missing_most 0 numbers, leb-true limit (least_missing 0 numbers) e)) ∙ sym e
    go false e = false_from_ne_true (leb limit (length m.caches)) (λ t.
        let all : least_missing 0 numbers ≡ 0 + length numbers = missing_all 0 limit numbers w.caches_rise (each_map (λ x. x < limit) (λ c. c.number) m.caches w.numbered) (omega (arith, many, leb-true limit (length m.caches) t)) in
        absurd (omega (arith, all, many, leb-true limit (length m.caches) t, leb-false limit (least_missing 0 numbers) e))) ∙ sym e

unseen : (n : ℕ) (cs : List Cache) → Each (λ x. x ≢ n) (map (λ c. c.number) cs) → find (λ (c : KnownCache). eqb c.number n) (map cache_as_known cs) ≡ None
unseen n [] e = refl
unseen n (c ∷ cs) (ne, e) = ap (λ b. if b then Some (cache_as_known c) else find (λ (x : KnownCache). eqb x.number n) (map cache_as_known cs)) (ne_eqb c.number n ne) ∙ unseen n cs e

module _ (limit order size align : ℕ) (pattern : ArrayVec ℕ) (m : Machine) (s : State) (w : IsWellFormed limit order m) (h : Meets order s m) where
  abbrev new : Cache
  new = record { number = next_number m; size = size; align = align; pattern = pattern.items; made = 0; slabs = [] }

  abbrev after_cache : State
  after_cache = record s { has = record s.has { caches = put_rising (λ (x : KnownCache). x.number) (cache_as_known new) s.has.caches }; last_report = None }

  old : (c : Cache) (t : Slab) → IsIn c (created (next_number m) size align pattern.items m).caches → IsIn t c.slabs → IsIn c m.caches
  old c t in_c in_t = go (in_put (λ x. x.number) new c m.caches in_c)
    where
      go : IsIn c (new ∷ m.caches) → IsIn c m.caches
      go (inl e) = absurd (subst (λ (x : Cache). IsIn t x.slabs) (sym e) in_t)
      go (inr i) = i

  cells_live : (holder : Holder) (place : ℕ) → is_object_live s.has holder place ≡ true → is_object_live after_cache.has holder place ≡ true
  cells_live Holder.Page place e = e
  cells_live (Holder.Object n first) place e = any_with (λ c. eqb c.number n && list_any (λ p. eqb p first) c.live) (λ c. c.number) (cache_as_known new) s.has.caches e

  cache_meets : Meets order after_cache (created (next_number m) size align pattern.items m)
  unfolding holdings_of
  cache_meets = record {
    has = ap (λ (x : Holdings). record x { caches = put_rising (λ (y : KnownCache). y.number) (cache_as_known new) x.caches }) h.has
        ∙ ap (λ cs. record (holdings_of m) { caches = cs }) (sym (new_told new m.caches));
    may_have_empty = λ c t in_c in_t. h.may_have_empty c t (in_contains c m.caches (old c t (contains_in _ c in_c) (contains_in c.slabs t in_t))) in_t;
    lives = λ place cell e sure. cells_live cell.holder place (h.lives place cell e sure);
    page_bytes = λ place byte out there. h.page_bytes place byte
        (in_slab_laid m place ∙ (ap (λ ls. list_any (in_laid place) ls) (sym (created_laid (next_number m) size align pattern.items m)) ∙ (sym (in_slab_laid (created (next_number m) size align pattern.items m) place) ∙ out))) there;
    object_bytes = λ o j byte i byte_in there. h.object_bytes o j byte (record {
      cache_in = in_contains o.cache m.caches (old o.cache o.slab (contains_in _ o.cache i.cache_in) (contains_in o.cache.slabs o.slab i.slab_in));
      slab_in = i.slab_in;
      index_in = i.index_in;
    }) byte_in there;
    empty_told = λ r e. absurd (cc);
    free_told = λ r e. absurd (cc);
  }

  no_slot : is_size size ≡ true → is_alignment align ≡ true → leb limit (next_number m) ≡ true → IsKeptBy limit order (Command.Cache size align pattern) s (Say.Refused Refusal.NoCacheSlot) m
  unfolding due
  no_slot sized aligned full =
      let seen : leb limit (length s.has.caches) ≡ true = full_seen limit order m s w h ∙ full in
      refused limit order (Command.Cache size align pattern) Refusal.NoCacheSlot s m h (λ t owners states. (rw sized (rw aligned (rw seen refl)), refl))

  bad_size : is_size size ≡ false → IsKeptBy limit order (Command.Cache size align pattern) s (Say.Refused Refusal.BadSize) m
  unfolding due
  bad_size e = refused limit order (Command.Cache size align pattern) Refusal.BadSize s m h (λ t owners states. (rw e refl, refl))

  bad_align : is_size size ≡ true → is_alignment align ≡ false → IsKeptBy limit order (Command.Cache size align pattern) s (Say.Refused Refusal.BadAlign) m
  unfolding due
  bad_align sized e = refused limit order (Command.Cache size align pattern) Refusal.BadAlign s m h (λ t owners states. (rw sized (rw e refl), refl))

  laid : Layout
  laid = layout_of size align

  fits : 3 ≤ order → is_size size ≡ true → is_alignment align ≡ true
      → (leb size laid.chunk && (eqb (laid.chunk % align) 0 && leb laid.order order)) && ((leb 1 laid.count && leb 1 laid.colours) && leb (align * (laid.colours - 1) + laid.count * laid.chunk) (4096 * 2 ^ laid.order)) ≡ true
  unfolding laid
  fits large sized aligned =
      let fit : IsLayout size align (layout_of size align) = layouts_fit size align sized aligned in
      let l : Layout = layout_of size align in
      let none : 0 % l.colours ≡ 0 = zero-mod l.colours in
      let same : align * (0 % l.colours) + 1 * l.chunk ≡ l.chunk = ap (λ k. align * k + 1 * l.chunk) none ∙ omega arith in
      let f = fit.fits (l.colours - 1) in
      let last : align * ((l.colours - 1) % l.colours) ≡ align * (l.colours - 1) = ap (λ k. align * k) (mod-eq_of_lt (omega (arith, fit.colours))) in
      and_from _ _ (and_from _ _ (le-leb size l.chunk fit.chunked) (and_from _ _ (eq-eqb (l.chunk % align) 0 (ap (λ k. k % align) (sym same) ∙ fit.aligned 0 1)) (le-leb l.order order (omega (arith, fit.order, large)))))
      (and_from _ _ (and_from _ _ (le-leb 1 l.count (omega (arith, f.some))) (le-leb 1 l.colours (omega (arith, fit.colours))))
      (le-leb (align * (l.colours - 1) + l.count * l.chunk) (4096 * 2 ^ l.order) (omega (arith, last, f.inside, f.within))))

  cache_made : 3 ≤ order → is_size size ≡ true → is_alignment align ≡ true → leb limit (next_number m) ≡ false
      → IsKeptBy limit order (Command.Cache size align pattern) s (Say.Cache (next_number m) laid.chunk laid.order laid.count laid.colours) (created (next_number m) size align pattern.items m)
  unfolding due state_after laid holdings_of next_number
  cache_made large sized aligned below =
      let seen : leb limit (length s.has.caches) ≡ false = full_seen limit order m s w h ∙ below in
      let other : known_cache s.has (next_number m) ≡ None = ap (λ (x : Holdings). find (λ (c : KnownCache). eqb c.number (next_number m)) x.caches) h.has
      ∙ unseen (next_number m) m.caches (least_is_missing 0 (map (λ c. c.number) m.caches) w.caches_rise) in
      record {
        allowed = λ t owners states. all_kept (On.Tenant t (Command.Cache size align pattern)) (record { addressee = To.Tenant t; body = Say.Cache (next_number m) laid.chunk laid.order laid.count laid.colours })
            (record { limit = limit; order = order; owners = owners; states = states }) s
            (formed t (Some after_cache) refl) (rw sized (rw aligned (rw seen refl))) refl refl refl refl
            (and_from _ _ (and_from _ _ (lt-ltb (next_number m) limit (leb-false limit (next_number m) below)) (ap is_none other)) (fits large sized aligned)) refl refl refl refl refl;
        meets = λ t. (after_cache, refl, cache_meets);
      }

  pub cache_is_kept : 3 ≤ order → IsPromiseKept limit order (Command.Cache size align pattern) m s
  unfolding command_step cache_step create_step laid
  cache_is_kept large = go (is_size size) refl (is_alignment align) refl (leb limit (next_number m)) refl
    where
      go : (a : Bool) → is_size size ≡ a → (b : Bool) → is_alignment align ≡ b → (c : Bool) → leb limit (next_number m) ≡ c
          → let made : Step (Option ℕ) = if c then record { answer = None; machine = m } else record { answer = Some (next_number m); machine = created (next_number m) size align pattern.items m } in
          let step : Step (Result ℕ CacheRefusal) = if not a then refuse CacheRefusal.BadSize m else (if not b then refuse CacheRefusal.BadAlign m else cache_answer made) in
          IsKeptBy limit order (Command.Cache size align pattern) s (cache_body size align step.answer) step.machine
      go false e b f c g = bad_size e
      go true e false f c g = bad_align e f
      go true e true f true g = no_slot e f g
      go true e true f false g = cache_made large e f g
