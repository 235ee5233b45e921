-- The first places of the live objects of a cache. They ascend, and they are the first places of the objects whose live flags are
-- set.
use Rattle.std.proofs.Common.{◌≡◌, ℕ, zero, suc, ◌+◌, ◌*◌, ◌^◌, ◌<◌, ◌≤◌, Bool, true, false, List, [], ◌∷◌, ◌++◌, map, length, get_or, sym, ap, ◌∙◌, subst, ◌⊎◌, inl, inr, arith}
use Rattle.std.specs.Prelude.{flat_map}
use Rattle.std.specs.List.{AllByRecursion as Each}
use Rattle.std.proofs.lemmas.Bool.{cases_lt}
use Rattle.std.proofs.lemmas.Nat.{row_fits}
use Rattle.std.proofs.lemmas.List.{map-append}
use Rattle.model_core.specs.Layouts.{object_place, IsFit}
use Rattle.model_core.specs.Machine.{Slab, Cache, Machine, layout, slab_block, slab_blocks, taken_blocks}
use Rattle.model_core.specs.Slabs.{LiveObject, live_from, live_in, live_objects}
use Rattle.model_core.specs.WellFormed.{RisesFrom, IsApart, AreApart, IsCut, IsCache, IsWellFormed}
use Rattle.model_core.proofs.Layouts.{layouts_fit}
use Rattle.model_core.specs.Elements.{IsIn}
use Rattle.model_core.proofs.Lists.{each_in, each_true, each_both, each_weaker, each_unmap, rises_more, rises_above, in_left, in_right, map_in}
use Rattle.model_core.proofs.BlocksApart.{apart_parts, has_first}
use Rattle.model_core.proofs.Objects.{IsLive, live_is}

-- Lists

pub rises_append : (n k : ℕ) (xs ys : List ℕ) → RisesFrom n xs → Each (λ x. x < k) xs → n ≤ k → RisesFrom k ys → RisesFrom n (xs ++ ys)
rises_append n k [] ys r below le q = rises_more k n ys le q
rises_append n k (x ∷ xs) ys (l, r) (b, below) le q = (l, rises_append (x + 1) k xs ys r below (omega arith) q)

-- The first places of the live objects of one slab

next_place : (c : Cache) (s : Slab) (n : ℕ) → object_place (layout c) s.first s.colour (n + 1) ≡ object_place (layout c) s.first s.colour n + (layout c).chunk
next_place c s n = let p : (n + 1) * (layout c).chunk ≡ n * (layout c).chunk + (layout c).chunk = omega arith in omega (arith, p)

slab_rises : (c : Cache) (s : Slab) (n : ℕ) (flags : List Bool) (low : ℕ) → 16 ≤ (layout c).chunk → low ≤ object_place (layout c) s.first s.colour n
    → RisesFrom low (map (λ o. o.place) (live_from c s n flags))
slab_rises c s n [] low chunk le = tt
slab_rises c s n (flag ∷ flags) low chunk le = go flag (λ k h. slab_rises c s (n + 1) flags k chunk h)
  where
    next : object_place (layout c) s.first s.colour (n + 1) ≡ object_place (layout c) s.first s.colour n + (layout c).chunk
    next = next_place c s n

    go : (b : Bool) → ((k : ℕ) → k ≤ object_place (layout c) s.first s.colour (n + 1) → RisesFrom k (map (λ o. o.place) (live_from c s (n + 1) flags)))
        → RisesFrom low (map (λ o. o.place) (live_from c s n (b ∷ flags)))
    go true rest = (le, rest (object_place (layout c) s.first s.colour n + 1) (omega (arith, next, chunk)))
    go false rest = rest low (omega (arith, next, le))

-- the chunk of an object lies inside the object's slab
pub place_below : (c : Cache) (s : Slab) (i : ℕ) → IsFit (layout c) s.colour → i < (layout c).count
    → (4096 * s.first ≤ object_place (layout c) s.first s.colour i) × (object_place (layout c) s.first s.colour i + (layout c).chunk ≤ 4096 * (s.first + 2 ^ (layout c).order))
place_below c s i fit lt =
    let row : i * (layout c).chunk + (layout c).chunk ≤ (layout c).count * (layout c).chunk = row_fits i (layout c).chunk (layout c).count (layout c).chunk lt (omega arith) in
    let most : s.colour + (layout c).count * (layout c).chunk ≤ (layout c).room = fit.inside in
    let room : (layout c).room ≤ 4096 * 2 ^ (layout c).order = fit.within in
    (omega arith, omega (arith, row, most, room))

-- Slabs of a cache of a well formed machine

pub record IsSlab (c : Cache) (s : Slab) : Type 0 where
  pub fit : IsFit (layout c) s.colour
  pub count : length s.live ≡ (layout c).count

pub slabs_of : (c : Cache) → IsCache c → Each (IsSlab c) c.slabs
slabs_of c h = each_weaker (IsCut c) (IsSlab c) (λ s k. record {
  fit = subst (IsFit (layout c)) (sym k.colour.1) ((layouts_fit c.size c.align h.sized h.aligned).fits k.colour.0);
  count = k.count;
}) c.slabs h.slabs_cut

slabs_apart : (c : Cache) (cs : List Cache) → IsIn c cs → AreApart (flat_map slab_blocks cs) → AreApart (slab_blocks c)
slabs_apart c [] i h = elim i [ ]
slabs_apart c (d ∷ cs) (inl e) h = subst (λ x. AreApart (slab_blocks x)) e (apart_parts (slab_blocks d) (flat_map slab_blocks cs) h).0
slabs_apart c (d ∷ cs) (inr i) h = slabs_apart c cs i (apart_parts (slab_blocks d) (flat_map slab_blocks cs) h).1

pub apart_in : {limit : ℕ} (order : ℕ) (c : Cache) (m : Machine) → IsWellFormed limit order m → IsIn c m.caches → AreApart (slab_blocks c)
unfolding taken_blocks
apart_in order c m w i = slabs_apart c m.caches i (apart_parts m.blocks (flat_map slab_blocks m.caches) w.apart).1

-- if slabs s and t share no frame, and t begins after the first frame of s, then t begins at the end of s or later
apart_after : (c : Cache) (s t : Slab) → IsApart (slab_block c s) (slab_block c t) → s.first + 1 ≤ t.first → s.first + 2 ^ (layout c).order ≤ t.first
apart_after c s t h le = go (cases_lt t.first (s.first + 2 ^ (layout c).order))
  where
    go : (t.first < s.first + 2 ^ (layout c).order) ⊎ (s.first + 2 ^ (layout c).order ≤ t.first) → s.first + 2 ^ (layout c).order ≤ t.first
    go (inl lt) = absurd (h t.first (omega (arith, le), lt) (has_first (slab_block c t)))
    go (inr ge) = ge

live_low : (c : Cache) (s : Slab) (n k : ℕ) (flags : List Bool) → ((i : ℕ) → i < n + length flags → object_place (layout c) s.first s.colour i < k)
    → Each (λ x. x < k) (map (λ o. o.place) (live_from c s n flags))
live_low c s n k [] h = tt
live_low c s n k (flag ∷ flags) h = go flag (live_low c s (n + 1) k flags (λ i lt. h i (omega arith)))
  where
    go : (b : Bool) → Each (λ x. x < k) (map (λ o. o.place) (live_from c s (n + 1) flags)) → Each (λ x. x < k) (map (λ o. o.place) (live_from c s n (b ∷ flags)))
    go true rest = (h n (omega arith), rest)
    go false rest = rest

pub slabs_rise : (c : Cache) (ss : List Slab) (n low : ℕ) → Each (IsSlab c) ss → RisesFrom n (map (λ s. s.first) ss) → AreApart (map (slab_block c) ss) → Each (λ s. low ≤ 4096 * s.first) ss
    → RisesFrom low (map (λ o. o.place) (flat_map (live_in c) ss))
slabs_rise c [] n low h r a b = tt
slabs_rise c (s ∷ ss) n low (k, h) (l, r) (a, rest) (b, bs) =
    let end : ℕ = 4096 * (s.first + 2 ^ (layout c).order) in
    let start : 4096 * s.first ≤ object_place (layout c) s.first s.colour 0 = omega arith in
    let after : Each (λ t. end ≤ 4096 * t.first) ss = each_both (λ t. IsApart (slab_block c s) (slab_block c t)) (λ t. s.first + 1 ≤ t.first) (λ t. end ≤ 4096 * t.first)
    (λ t p q. let e : s.first + 2 ^ (layout c).order ≤ t.first = apart_after c s t p q in omega (arith, e)) ss (each_unmap (IsApart (slab_block c s)) (slab_block c) ss a) (rises_above (λ t. t.first) (s.first + 1) ss r) in
    subst (RisesFrom low) (sym (map-append (λ o. o.place) (live_in c s) (flat_map (live_in c) ss)))
    (rises_append low end (map (λ o. o.place) (live_in c s)) (map (λ o. o.place) (flat_map (live_in c) ss))
    (slab_rises c s 0 s.live low k.fit.chunked (omega (arith, b, start)))
    (live_low c s 0 end s.live (λ i lt. let p = place_below c s i k.fit (omega (arith, lt, k.count)) in omega (arith, p.1, k.fit.chunked)))
    (omega (arith, b)) (slabs_rise c ss (s.first + 1) end h r rest after))

-- the first places of the live objects of a cache ascend
pub live_rises : {limit : ℕ} (order : ℕ) (c : Cache) (m : Machine) → IsWellFormed limit order m → IsIn c m.caches → RisesFrom 0 (map (λ o. o.place) (live_objects c))
live_rises order c m w i =
    let h : IsCache c = each_in IsCache c m.caches w.caches i in
    slabs_rise c c.slabs 0 0 (slabs_of c h) h.slabs_rise (apart_in order c m w i) (each_true (λ s. 0 ≤ 4096 * s.first) (λ s. omega arith) c.slabs)

-- Live objects, by their first place

pub record IsLivePlace (c : Cache) (u : ℕ) : Type 0 where
  pub slab : Slab
  pub index : ℕ
  pub slab_in : IsIn slab c.slabs
  pub index_in : index < length slab.live
  pub live : get_or slab.live index false ≡ true
  pub at : u ≡ object_place (layout c) slab.first slab.colour index

pub live_place : (c : Cache) (u : ℕ) → IsIn u (map (λ o. o.place) (live_objects c)) → IsLivePlace c u
live_place c u i =
    let r : (o : LiveObject) × IsIn o (live_objects c) × (o.place ≡ u) = map_in (λ o. o.place) u (live_objects c) i in
    let l : IsLive c r.0 = live_is c r.0 r.1 in
    record { slab = r.0.slab; index = r.0.index; slab_in = l.slab_in; index_in = l.index_in; live = l.live; at = sym r.2 ∙ l.at }

listed_from : (c : Cache) (s : Slab) (n i : ℕ) (flags : List Bool) → i < length flags → get_or flags i false ≡ true
    → IsIn (object_place (layout c) s.first s.colour (n + i)) (map (λ o. o.place) (live_from c s n flags))
listed_from c s n i [] lt e = absurd (omega arith)
listed_from c s n zero (flag ∷ flags) lt e =
    subst (λ b. IsIn (object_place (layout c) s.first s.colour (n + 0)) (map (λ o. o.place) (live_from c s n (b ∷ flags)))) (sym e)
    (inl (ap (λ k. object_place (layout c) s.first s.colour k) (omega arith)))
listed_from c s n (suc i) (flag ∷ flags) lt e = go flag
    (subst (λ k. IsIn (object_place (layout c) s.first s.colour k) (map (λ o. o.place) (live_from c s (n + 1) flags))) (omega arith) (listed_from c s (n + 1) i flags (omega arith) e))
  where
    go : (b : Bool) → IsIn (object_place (layout c) s.first s.colour (n + suc i)) (map (λ o. o.place) (live_from c s (n + 1) flags))
        → IsIn (object_place (layout c) s.first s.colour (n + suc i)) (map (λ o. o.place) (live_from c s n (b ∷ flags)))
    go true rest = inr rest
    go false rest = rest

in_flat : (c : Cache) (s : Slab) (u : ℕ) (ss : List Slab) → IsIn s ss → IsIn u (map (λ o. o.place) (live_in c s)) → IsIn u (map (λ o. o.place) (flat_map (live_in c) ss))
in_flat c s u [] i j = elim i [ ]
in_flat c s u (t ∷ ss) i j = subst (IsIn u) (sym (map-append (λ o. o.place) (live_in c t) (flat_map (live_in c) ss))) (go i (λ k. in_flat c s u ss k j))
  where
    go : IsIn s (t ∷ ss) → (IsIn s ss → IsIn u (map (λ o. o.place) (flat_map (live_in c) ss))) → IsIn u (map (λ o. o.place) (live_in c t) ++ map (λ o. o.place) (flat_map (live_in c) ss))
    go (inl e) rest = in_left u (map (λ o. o.place) (live_in c t)) (map (λ o. o.place) (flat_map (live_in c) ss)) (subst (λ x. IsIn u (map (λ o. o.place) (live_in c x))) (sym e) j)
    go (inr k) rest = in_right u (map (λ o. o.place) (live_in c t)) (map (λ o. o.place) (flat_map (live_in c) ss)) (rest k)

pub place_listed : (c : Cache) (u : ℕ) → IsLivePlace c u → IsIn u (map (λ o. o.place) (live_objects c))
place_listed c u l = in_flat c l.slab u c.slabs l.slab_in
    (subst (λ x. IsIn x (map (λ o. o.place) (live_in c l.slab))) (ap (λ k. object_place (layout c) l.slab.first l.slab.colour k) (omega arith) ∙ sym l.at)
    (listed_from c l.slab 0 l.index l.slab.live l.index_in l.live))
