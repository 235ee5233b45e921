-- The live objects beside an object are the live objects of the object's slab.
use Rattle.std.proofs.Common.{◌≡◌, ℕ, ◌+◌, ◌/◌, ◌<◌, ◌≤◌, Bool, true, false, eqb, List, [], ◌∷◌, ◌++◌, map, length, get_or, refl, sym, ap, ◌∙◌, subst, inl, inr, arith}
use Rattle.std.specs.Prelude.{filter}
use Rattle.std.specs.List.{list_any, list_all}
use Rattle.std.proofs.lemmas.List.{map-id}
use Rattle.std.proofs.lemmas.Bool.{eqb-true, eq-eqb, false≢true}
use Rattle.model_core.specs.Layouts.{object_place}
use Rattle.model_core.specs.Machine.{Slab, Cache, Machine, layout, slab_block}
use Rattle.model_core.specs.Slabs.{live_from, live_objects}
use Rattle.model_core.specs.WellFormed.{RisesFrom, IsCache, IsWellFormed}
use Rattle.model_core.specs.Elements.{IsIn}
use Rattle.model_core.proofs.Lists.{each_in, filter_in, in_filter, filter_rises}
use Rattle.model_core.proofs.BlocksApart.{in_block-true}
use Rattle.model_core.proofs.LaidSlabs.{Laid, laid, all_laid, laid_block, IsCutLaid, IsLaidOut, laid_out}
use Rattle.model_core.proofs.CacheSteps.{in_all_laid}
use Rattle.model_core.proofs.Objects.{IsByteOf, byte_is_of}
use Rattle.model_core.proofs.ObjectsApart.{one_key}
use Rattle.model_core.proofs.RisingLists.{same_members}
use Rattle.promise_core.specs.Holdings.{slab_around, live_beside}
use Rattle.promise_kept.specs.Meets.{cache_as_known}
use Rattle.promise_core.proofs.ObjectGrids.{around_is}
use Rattle.promise_kept.proofs.LiveObjects.{IsSlab, slabs_of, slabs_rise, live_rises, IsLivePlace, live_place, place_listed}

-- the cache with this slab as its only slab
abbrev pub alone : Cache → Slab → Cache
alone c s = record c { slabs = s ∷ [] }

-- the first places of the slab's live objects
abbrev pub places_in : Cache → Slab → List ℕ
places_in c s = map (λ o. o.place) (live_objects (alone c s))

-- The number of live objects of a slab

abbrev places_from : Cache → Slab → ℕ → List Bool → List ℕ
places_from c s n flags = map (λ o. o.place) (live_from c s n flags ++ [])

most_live : (c : Cache) (s : Slab) (n : ℕ) (flags : List Bool) → length (places_from c s n flags) ≤ length flags
most_live c s n [] = omega arith
most_live c s n (true ∷ flags) = let e : length (places_from c s (n + 1) flags) ≤ length flags = most_live c s (n + 1) flags in omega (arith, e)
most_live c s n (false ∷ flags) = let e : length (places_from c s (n + 1) flags) ≤ length flags = most_live c s (n + 1) flags in omega (arith, e)

all_live : (c : Cache) (s : Slab) (n : ℕ) (flags : List Bool) → list_all (λ live. live) flags ≡ true → length (places_from c s n flags) ≡ length flags
all_live c s n [] e = refl
all_live c s n (true ∷ flags) e = let rest : length (places_from c s (n + 1) flags) ≡ length flags = all_live c s (n + 1) flags e in omega (arith, rest)
all_live c s n (false ∷ flags) e = absurd (false≢true e)

not_all_live : (c : Cache) (s : Slab) (n : ℕ) (flags : List Bool) → list_all (λ live. live) flags ≡ false → length (places_from c s n flags) < length flags
not_all_live c s n [] e = absurd (false≢true (sym e))
not_all_live c s n (true ∷ flags) e = let rest : length (places_from c s (n + 1) flags) < length flags = not_all_live c s (n + 1) flags e in omega (arith, rest)
not_all_live c s n (false ∷ flags) e = let rest : length (places_from c s (n + 1) flags) ≤ length flags = most_live c s (n + 1) flags in omega (arith, rest)

any_live : (c : Cache) (s : Slab) (n : ℕ) (flags : List Bool) → list_any (λ live. live) flags ≡ true → 0 < length (places_from c s n flags)
any_live c s n [] e = absurd (false≢true e)
any_live c s n (true ∷ flags) e = omega arith
any_live c s n (false ∷ flags) e = any_live c s (n + 1) flags e

pub full_count : (c : Cache) (s : Slab) → list_all (λ live. live) s.live ≡ true → length (places_in c s) ≡ length s.live
full_count c s e = all_live (alone c s) s 0 s.live e

pub less_count : (c : Cache) (s : Slab) → list_all (λ live. live) s.live ≡ false → length (places_in c s) < length s.live
less_count c s e = not_all_live (alone c s) s 0 s.live e

pub some_count : (c : Cache) (s : Slab) → list_any (λ live. live) s.live ≡ true → 0 < length (places_in c s)
some_count c s e = any_live (alone c s) s 0 s.live e

-- The live objects beside an object

pub record IsBeside (c : Cache) (s : Slab) (u : ℕ) : Type 0 where
  pub index : ℕ
  pub index_in : index < length s.live
  pub live : get_or s.live index false ≡ true
  pub at : u ≡ object_place (layout c) s.first s.colour index

pub beside_at : (c : Cache) (s : Slab) (u : ℕ) → IsIn u (places_in c s) → IsBeside c s u
beside_at c s u i = let l : IsLivePlace (alone c s) u = live_place (alone c s) u i in go l l.slab_in
  where
    go : (l : IsLivePlace (alone c s) u) → IsIn l.slab (s ∷ []) → IsBeside c s u
    go l (inr j) = elim j [ ]
    go l (inl e) = record {
      index = l.index;
      index_in = subst (λ t. l.index < length t.live) (sym e) l.index_in;
      live = ap (λ t. get_or t.live l.index false) e ∙ l.live;
      at = l.at ∙ ap (λ t. object_place (layout c) t.first t.colour l.index) (sym e);
    }

-- the slabs of cache c that are seen around the places p and `place` have the same first frame
abbrev is_here : Cache → ℕ → ℕ → Bool
is_here c place p = eqb (slab_around (cache_as_known c) p).first (slab_around (cache_as_known c) place).first

module _ {limit : ℕ} (order : ℕ) (c : Cache) (m : Machine) (w : IsWellFormed limit order m) (in_c : IsIn c m.caches) where
  pub is_slab : (s : Slab) → IsIn s c.slabs → IsSlab c s
  is_slab s in_s = each_in (IsSlab c) s c.slabs (slabs_of c (each_in IsCache c m.caches w.caches in_c)) in_s

  -- the slab that is seen around the first place of an object, live or not, is the object's slab
  pub slab_here : (s : Slab) (i : ℕ) → IsIn s c.slabs → i < (layout c).count → slab_around (cache_as_known c) (object_place (layout c) s.first s.colour i) ≡ slab_block c s
  slab_here s i in_s lt =
      let p : ℕ = object_place (layout c) s.first s.colour i in
      let k : Laid = laid c s in
      let l : IsLaidOut order m.slots m.blocks (all_laid m.caches) m.bytes = laid_out order m w in
      let j : IsIn k (all_laid m.caches) = in_all_laid c s m.caches in_c in_s in
      let cut : IsCutLaid k = each_in IsCutLaid k (all_laid m.caches) l.cut j in
      let byte : IsByteOf k i 0 p = byte_is_of k cut i 0 p (record { index_in = lt; byte_in = cut.fit.sized; at = omega arith }) in
      around_is (slab_block c s) (p / 4096) (each_in _ k (all_laid m.caches) l.placed_slabs j).0.1 (in_block-true p (laid_block k) byte.in_slab)

  pub slab_of_live : (u : ℕ) (l : IsLivePlace c u) → slab_around (cache_as_known c) u ≡ slab_block c l.slab
  slab_of_live u l = ap (λ p. slab_around (cache_as_known c) p) l.at
      ∙ slab_here l.slab l.index l.slab_in (subst (λ n. l.index < n) (is_slab l.slab l.slab_in).count l.index_in)

  -- the live objects beside an object, which may be live or not, are the live objects of the object's slab
  pub beside_is : (s : Slab) (i : ℕ) → IsIn s c.slabs → i < (layout c).count → live_beside (cache_as_known c) (object_place (layout c) s.first s.colour i) ≡ places_in c s
  beside_is s i in_s lt = same_members 0 (live_beside (cache_as_known c) place) (places_in c s)
      (subst (RisesFrom 0) (map-id (filter (is_here c place) live)) (filter_rises (λ p. p) (is_here c place) 0 live (subst (RisesFrom 0) (sym (map-id live)) (live_rises order c m w in_c))))
      (slabs_rise (alone c s) (s ∷ []) 0 0 (record { fit = (is_slab s in_s).fit; count = (is_slab s in_s).count }, tt) (omega arith, tt) (tt, tt) (omega arith, tt))
      there back
    where
      place : ℕ
      place = object_place (layout c) s.first s.colour i

      live : List ℕ
      live = map (λ o. o.place) (live_objects c)

      there : (u : ℕ) → IsIn u (live_beside (cache_as_known c) place) → IsIn u (places_in c s)
      there u j =
          let f : IsIn u live × (is_here c place u ≡ true) = filter_in (is_here c place) u live j in
          let l : IsLivePlace c u = live_place c u f.0 in
          let first : l.slab.first ≡ s.first = sym (ap (λ b. b.first) (slab_of_live u l)) ∙ (eqb-true (slab_around (cache_as_known c) u).first (slab_around (cache_as_known c) place).first f.1 ∙ ap (λ b. b.first) (slab_here s i in_s lt)) in
          let same : l.slab ≡ s = one_key (λ x. x.first) 0 c.slabs l.slab s (each_in IsCache c m.caches w.caches in_c).slabs_rise l.slab_in in_s first in
          place_listed (alone c s) u (record { slab = l.slab; index = l.index; slab_in = inl (sym same); index_in = l.index_in; live = l.live; at = l.at })

      back : (u : ℕ) → IsIn u (places_in c s) → IsIn u (live_beside (cache_as_known c) place)
      back u j =
          let b : IsBeside c s u = beside_at c s u j in
          let l : IsLivePlace c u = record { slab = s; index = b.index; slab_in = in_s; index_in = b.index_in; live = b.live; at = b.at } in
          in_filter (is_here c place) u live (place_listed c u l)
          (eq-eqb (slab_around (cache_as_known c) u).first (slab_around (cache_as_known c) place).first (ap (λ b. b.first) (slab_of_live u l) ∙ sym (ap (λ b. b.first) (slab_here s i in_s lt))))
