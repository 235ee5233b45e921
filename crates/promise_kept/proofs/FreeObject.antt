-- A take may return any object of a slab if the object is not live.
use Rattle.std.proofs.Common.{◌≡◌, ℕ, zero, suc, ◌+◌, ◌-◌, ◌*◌, ◌/◌, ◌%◌, ◌^◌, ◌<◌, ◌≤◌, Bool, true, false, ◌||◌, ◌&&◌, eqb, ltb, leb, List, [], ◌∷◌, map, length, get_or, refl, sym, ap, ◌∙◌, subst, ◌⊎◌, inl, inr, arith}
use Rattle.std.specs.Prelude.{flat_map}
use Rattle.std.specs.List.{list_any, list_all, AllByRecursion as Each}
use Rattle.std.proofs.Math.Nat.{mul-mod_left, mul-div_cancel}
use Rattle.std.proofs.lemmas.Nat.{row_fits}
use Rattle.std.proofs.lemmas.Bool.{false≢true, and_from, or_left, or_right, eq-eqb, lt-ltb, le-leb, cases_lt, not_from_false, false_from_ne_true}
use Rattle.model_core.specs.Blocks.{Block}
use Rattle.model_core.specs.Choice.{is_any_below}
use Rattle.model_core.specs.Layouts.{object_place, is_alignment, object_offset, IsFit, IsLayout}
use Rattle.model_core.specs.Machine.{Slab, Cache, Machine, layout, slab_block}
use Rattle.model_core.specs.Operations.{overlaps}
use Rattle.model_core.specs.Slabs.{live_objects}
use Rattle.model_core.specs.WellFormed.{IsApart, IsCut, IsCache, IsWellFormed}
use Rattle.model_core.proofs.Layouts.{for_alignment, layouts_fit}
use Rattle.model_core.specs.Elements.{IsIn}
use Rattle.model_core.proofs.Lists.{each_in, each_from, any_none, in_map, map_in, in_append, flat_map_in}
use Rattle.model_core.proofs.BlocksApart.{apart_turned, one_holder}
use Rattle.model_core.proofs.BlocksByNumber.{any_below_is}
use Rattle.model_core.proofs.LaidSlabs.{laid, all_laid, laid_block, Placed, IsLaidOut, laid_out}
use Rattle.model_core.proofs.CacheSteps.{in_all_laid}
use Rattle.promise_core.specs.Holdings.{KnownCache, Holdings, slab_around, known_blocks, can_stand, are_apart, is_grid, can_be_taken}
use Rattle.promise_core.proofs.ObjectGrids.{all_from}
use Rattle.promise_kept.specs.Meets.{cache_as_known, holdings_of}
use Rattle.promise_kept.proofs.SeenBlocks.{overlap_shares}
use Rattle.promise_kept.proofs.LiveObjects.{IsLivePlace, live_place}
use Rattle.promise_kept.proofs.ObjectsBeside.{places_in, less_count, some_count, IsBeside, beside_at, is_slab, slab_here, slab_of_live, beside_is}

-- if flag i is set, some flag of the list is set
flag_any : (flags : List Bool) (i : ℕ) → get_or flags i false ≡ true → list_any (λ live. live) flags ≡ true
flag_any [] i e = absurd (false≢true e)
flag_any (flag ∷ flags) zero e = or_left flag (list_any (λ live. live) flags) e
flag_any (flag ∷ flags) (suc i) e = or_right flag (list_any (λ live. live) flags) (flag_any flags i e)

-- if an offset from the beginning of a frame is a multiple of an alignment, so is the place at that offset
frame_aligned : (align : ℕ) → is_alignment align ≡ true → (f n : ℕ) → n % align ≡ 0 → (4096 * f + n) % align ≡ 0
frame_aligned = for_alignment (λ a. (f n : ℕ) → n % a ≡ 0 → (4096 * f + n) % a ≡ 0)
    (λ f n e. omega (arith, e)) (λ f n e. omega (arith, e)) (λ f n e. omega (arith, e)) (λ f n e. omega (arith, e)) (λ f n e. omega (arith, e)) (λ f n e. omega (arith, e))

-- the test of `can_be_taken`, given the live objects beside the place and the slab b around it
abbrev is_takable : ℕ → Holdings → KnownCache → ℕ → List ℕ → Block → Bool
is_takable order h c place beside b = (eqb (place % c.align) 0 && (ltb 0 (length beside) || can_stand order h b))
    && (ltb (length beside) c.count && (list_all (are_apart c place) beside
    && is_any_below (λ i. leb (i * c.chunk) place && is_grid c b (place - i * c.chunk) beside) c.count))

module _ {limit : ℕ} (order : ℕ) (c : Cache) (s : Slab) (m : Machine) (w : IsWellFormed limit order m) (in_c : IsIn c m.caches) (in_s : IsIn s c.slabs) where
  is_layout : IsLayout c.size c.align (layout c)
  is_layout = let h : IsCache c = each_in IsCache c m.caches w.caches in_c in layouts_fit c.size c.align h.sized h.aligned

  fit : IsFit (layout c) s.colour
  fit = (is_slab order c m w in_c s in_s).fit

  -- two different objects of the slab share no byte
  pub two_apart : (i j : ℕ) → (j ≡ i → ⊥) → are_apart (cache_as_known c) (object_place (layout c) s.first s.colour i) (object_place (layout c) s.first s.colour j) ≡ true
  two_apart i j differ = go (cases_lt i j)
    where
      p : ℕ
      p = object_place (layout c) s.first s.colour i

      q : ℕ
      q = object_place (layout c) s.first s.colour j

      go : (i < j) ⊎ (j ≤ i) → (leb (p + c.size) q || leb (q + c.size) p) ≡ true
      go (inl lt) =
          let row : i * (layout c).chunk + (layout c).chunk ≤ j * (layout c).chunk = row_fits i (layout c).chunk j (layout c).chunk lt (omega arith) in
          or_left (leb (p + c.size) q) (leb (q + c.size) p) (le-leb (p + c.size) q (omega (arith, row, is_layout.chunked)))
      go (inr le) =
          let row : j * (layout c).chunk + (layout c).chunk ≤ i * (layout c).chunk = row_fits j (layout c).chunk i (layout c).chunk (omega (arith, le, differ)) (omega arith) in
          or_right (leb (p + c.size) q) (leb (q + c.size) p) (le-leb (q + c.size) p (omega (arith, row, is_layout.chunked)))

  -- `can_stand` is true of a slab without live objects

  other_apart : list_any (λ live. live) s.live ≡ false → (b : Block) → IsIn b (known_blocks (holdings_of m)) → IsApart (slab_block c s) b
  unfolding known_blocks holdings_of
  other_apart none b i = go (in_append b m.blocks (flat_map (λ x. map (slab_around x) x.live) (map cache_as_known m.caches)) i)
    where
      l : IsLaidOut order m.slots m.blocks (all_laid m.caches) m.bytes
      l = laid_out order m w

      here : IsIn (laid c s) (all_laid m.caches)
      here = in_all_laid c s m.caches in_c in_s

      slab : (d : Cache) → IsIn d m.caches → (u : ℕ) (o : IsLivePlace d u) → IsApart (slab_block c s) (slab_block d o.slab)
      slab d in_d u o y in_one in_other =
          let one : laid c s ≡ laid d o.slab = one_holder laid_block (all_laid m.caches) (laid c s) (laid d o.slab) y l.apart_slabs here (in_all_laid d o.slab m.caches in_d o.slab_in) in_one in_other in
          false≢true (sym none ∙ flag_any s.live o.index (ap (λ k. get_or k.live o.index false) one ∙ o.live))

      told : (d : Cache) → IsIn d m.caches → IsIn b (map (slab_around (cache_as_known d)) (map (λ o. o.place) (live_objects d))) → IsApart (slab_block c s) b
      told d in_d j =
          let u : (u : ℕ) × IsIn u (map (λ o. o.place) (live_objects d)) × (slab_around (cache_as_known d) u ≡ b) = map_in (slab_around (cache_as_known d)) b (map (λ o. o.place) (live_objects d)) j in
          let o : IsLivePlace d u.0 = live_place d u.0 u.1 in
          subst (IsApart (slab_block c s)) (sym (slab_of_live order d m w in_d u.0 o) ∙ u.2) (slab d in_d u.0 o)

      go : IsIn b m.blocks ⊎ IsIn b (flat_map (λ x. map (slab_around x) x.live) (map cache_as_known m.caches)) → IsApart (slab_block c s) b
      go (inl j) = apart_turned b (slab_block c s) (each_in (IsApart b) (slab_block c s) (map laid_block (all_laid m.caches))
          (each_in (λ a. Each (IsApart a) (map laid_block (all_laid m.caches))) b m.blocks l.across j) (in_map laid_block (laid c s) (all_laid m.caches) here))
      go (inr j) =
          let t : (t : KnownCache) × IsIn t (map cache_as_known m.caches) × IsIn b (map (slab_around t) t.live) = flat_map_in (λ x. map (slab_around x) x.live) b (map cache_as_known m.caches) j in
          let d : (d : Cache) × IsIn d m.caches × (cache_as_known d ≡ t.0) = map_in cache_as_known t.0 m.caches t.1 in
          told d.0 d.1 (subst (λ x. IsIn b (map (slab_around x) x.live)) (sym d.2) t.2)

  stands : list_any (λ live. live) s.live ≡ false → can_stand order (holdings_of m) (slab_block c s) ≡ true
  unfolding can_stand holdings_of
  stands none =
      let b : Block = slab_block c s in
      let placed : Placed order m.slots b = each_in (λ k. Placed order m.slots (laid_block k)) (laid c s) (all_laid m.caches) (laid_out order m w).placed_slabs (in_all_laid c s m.caches in_c in_s) in
      and_from _ _ (and_from _ _ (le-leb b.order order placed.0.0) (eq-eqb (b.first % 2 ^ b.order) 0 placed.0.1))
      (and_from _ _ placed.1 (not_from_false _ (any_none (overlaps b) (known_blocks (holdings_of m)) (each_from (λ x. overlaps b x ≡ false) (known_blocks (holdings_of m)) (λ x i.
      false_from_ne_true (overlaps b x) (λ e. overlap_shares b x e (other_apart none x i)))))))

  -- `is_grid` is true of the places of the slab's live objects

  on_grid : (u : ℕ) → IsIn u (places_in c s) → let origin = 4096 * s.first + s.colour in
      (leb origin u && (eqb ((u - origin) % (layout c).chunk) 0 && ltb ((u - origin) / (layout c).chunk) (layout c).count)) ≡ true
  on_grid u i =
      let b : IsBeside c s u = beside_at c s u i in
      let origin : ℕ = 4096 * s.first + s.colour in
      let chunk : ℕ = (layout c).chunk in
      let at : u ≡ origin + b.index * chunk = omega (arith, b.at) in
      let rest : u - origin ≡ b.index * chunk = omega (arith, at) in
      and_from _ _ (le-leb origin u (omega (arith, at))) (and_from _ _
      (eq-eqb ((u - origin) % chunk) 0 (ap (λ n. n % chunk) rest ∙ mul-mod_left b.index chunk))
      (lt-ltb ((u - origin) / chunk) (layout c).count (subst (λ n. n < (layout c).count) (sym (ap (λ n. n / chunk) rest ∙ mul-div_cancel b.index (omega (arith, fit.chunked))))
      (subst (λ n. b.index < n) (is_slab order c m w in_c s in_s).count b.index_in))))

  grid : is_grid (cache_as_known c) (slab_block c s) (4096 * s.first + s.colour) (places_in c s) ≡ true
  grid =
      let origin : ℕ = 4096 * s.first + s.colour in
      let l = layout c in
      let row : (l.count - 1) * l.chunk + l.chunk ≤ l.count * l.chunk = row_fits (l.count - 1) l.chunk l.count l.chunk (omega (arith, fit.some)) (omega arith) in
      and_from _ _ (and_from _ _ (le-leb (4096 * s.first) origin (omega arith))
      (le-leb (origin + (l.count - 1) * l.chunk + c.size) (4096 * (s.first + 2 ^ l.order)) (omega (arith, row, is_layout.chunked, fit.inside, fit.within))))
      (all_from (λ p. leb origin p && (eqb ((p - origin) % l.chunk) 0 && ltb ((p - origin) / l.chunk) l.count)) (places_in c s) on_grid)

  -- The object can be taken

  module _ (i : ℕ) (lt : i < (layout c).count) (dead : get_or s.live i false ≡ false) (some : list_all (λ live. live) s.live ≡ false) where
    abbrev place : ℕ
    place = object_place (layout c) s.first s.colour i

    aligned : place % c.align ≡ 0
    aligned =
        let h : IsCache c = each_in IsCache c m.caches w.caches in_c in
        let cut : IsCut c s = each_in (IsCut c) s c.slabs h.slabs_cut in_s in
        frame_aligned c.align h.aligned s.first (object_offset (layout c) s.colour i)
        (ap (λ n. object_offset (layout c) n i % c.align) cut.colour.1 ∙ is_layout.aligned cut.colour.0 i)

    stood : (b : Bool) → list_any (λ live. live) s.live ≡ b → (ltb 0 (length (places_in c s)) || can_stand order (holdings_of m) (slab_block c s)) ≡ true
    stood true e = or_left (ltb 0 (length (places_in c s))) _ (lt-ltb 0 (length (places_in c s)) (some_count c s e))
    stood false e = or_right (ltb 0 (length (places_in c s))) _ (stands e)

    off_others : list_all (are_apart (cache_as_known c) place) (places_in c s) ≡ true
    off_others = all_from (are_apart (cache_as_known c) place) (places_in c s) (λ u j.
        let b : IsBeside c s u = beside_at c s u j in
        ap (are_apart (cache_as_known c) place) b.at ∙ two_apart i b.index (λ e. false≢true (sym dead ∙ (ap (λ n. get_or s.live n false) (sym e) ∙ b.live))))

    steps : is_any_below (λ k. leb (k * (layout c).chunk) place && is_grid (cache_as_known c) (slab_block c s) (place - k * (layout c).chunk) (places_in c s)) (layout c).count ≡ true
    steps =
        let origin : place - i * (layout c).chunk ≡ 4096 * s.first + s.colour = omega arith in
        any_below_is (λ k. leb (k * (layout c).chunk) place && is_grid (cache_as_known c) (slab_block c s) (place - k * (layout c).chunk) (places_in c s)) (layout c).count i lt
        (and_from _ _ (le-leb (i * (layout c).chunk) place (omega arith)) (ap (λ n. is_grid (cache_as_known c) (slab_block c s) n (places_in c s)) origin ∙ grid))

    takable : is_takable order (holdings_of m) (cache_as_known c) place (places_in c s) (slab_block c s) ≡ true
    takable = and_from _ _ (and_from _ _ (eq-eqb (place % c.align) 0 aligned) (stood (list_any (λ live. live) s.live) refl))
        (and_from _ _ (lt-ltb (length (places_in c s)) (layout c).count (subst (λ n. length (places_in c s) < n) (is_slab order c m w in_c s in_s).count (less_count c s some)))
        (and_from _ _ off_others steps))

    pub can_take : can_be_taken order (holdings_of m) (cache_as_known c) place ≡ true
    unfolding can_be_taken
    can_take = ap (λ ps. is_takable order (holdings_of m) (cache_as_known c) place ps (slab_around (cache_as_known c) place)) (beside_is order c m w in_c s i in_s lt)
        ∙ (ap (λ b. is_takable order (holdings_of m) (cache_as_known c) place (places_in c s) b) (slab_here order c m w in_c s i in_s lt) ∙ takable)
