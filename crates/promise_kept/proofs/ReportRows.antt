-- The row of each cache in a report agrees with what is seen of the cache. The number of taken blocks of each order follows from
-- these rows and the page blocks.
use Rattle.std.proofs.Common.{◌≡◌, ℕ, ◌+◌, ◌<◌, ◌≤◌, Bool, true, false, not, ◌&&◌, ◌||◌, cond, eqb, List, [], ◌∷◌, ◌++◌, map, length, refl, sym, ap, ◌∙◌, subst, inl, inr, arith}
use Rattle.std.specs.Prelude.{if◌then◌else◌, filter, flat_map, slice_index}
use Rattle.std.specs.List.{list_any, list_all, zip, sum_by}
use Rattle.std.proofs.lemmas.Bool.{and_from, eq-eqb, ne_eqb, false≢true}
use Rattle.std.proofs.lemmas.List.{length-append, length-map, append-nil, map-append}
use Rattle.std.proofs.lemmas.List.Elements.{filter-append}
use Rattle.std.proofs.lemmas.List.Sums.{sum_by-cons}
use Rattle.std.proofs.Math.Bool.{or-true}
use Rattle.model_core.specs.declared.report.CacheRow.{CacheRow}
use Rattle.model_core.specs.Blocks.{Block}
use Rattle.model_core.specs.Machine.{Slab, Cache, Machine, layout, slab_block, slab_blocks}
use Rattle.model_core.specs.Machine as model
use Rattle.model_core.specs.Slabs.{is_full, is_partial, is_empty, live_in, live_objects}
use Rattle.model_core.specs.Reports.{row_of_cache, rows_of_caches}
use Rattle.model_core.specs.Reports as reports
use Rattle.model_core.specs.WellFormed.{RisesFrom, IsWellFormed}
use Rattle.model_core.proofs.CountBelow.{bit}
use Rattle.model_core.specs.Elements.{IsIn}
use Rattle.promise_core.specs.Holdings.{KnownCache, live_beside}
use Rattle.promise_core.specs.Holdings as holdings
use Rattle.promise_core.specs.Promises.{count_slabs, is_row, known_count}
use Rattle.promise_kept.specs.Meets.{cache_as_known, holdings_of}
use Rattle.promise_kept.proofs.LiveObjects.{slabs_rise}
use Rattle.promise_kept.proofs.ObjectsBeside.{alone, places_in, full_count, less_count, some_count, IsBeside, beside_at, is_slab, beside_is}
use Rattle.promise_kept.proofs.EmptySlabsUnseen.{none_live}

-- Lists

-- Suppose that only the first element of a nonempty ascending list can pass p, and that it passes exactly if b is true. Then 1
-- element passes if b is true, and 0 elements pass otherwise.
one_first : (n : ℕ) (xs : List ℕ) (b : Bool) (p : ℕ → Bool) → RisesFrom n xs → ((x : ℕ) → IsIn x xs → p x ≡ (eqb (slice_index xs 0) x && b)) → 0 < length xs → length (filter p xs) ≡ bit b
one_first n [] b p r all some = absurd (omega (arith, some))
one_first n (x ∷ xs) b p (l, r) all some =
    let here : p x ≡ b = all x (inl refl) ∙ ap (λ c. c && b) (eq-eqb x x refl) in
    let rest : filter p xs ≡ [] = none xs (x + 1) r (λ y i above. all y (inr i) ∙ ap (λ c. c && b) (ne_eqb x y (λ same. absurd (omega (arith, same, above))))) in
    ap (λ c. length (cond c (x ∷ filter p xs) (filter p xs))) here ∙ (ap (λ ys. length (cond b (x ∷ ys) ys)) rest ∙ go b)
  where
    go : (b : Bool) → length (cond b (x ∷ []) []) ≡ bit b
    go true = refl
    go false = refl

    none : (ys : List ℕ) (k : ℕ) → RisesFrom k ys → ((y : ℕ) → IsIn y ys → k ≤ y → p y ≡ false) → filter p ys ≡ []
    none [] k r off = refl
    none (y ∷ ys) k (l, r) off =
        ap (λ c. cond c (y ∷ filter p ys) (filter p ys)) (off y (inl refl) l) ∙ none ys (y + 1) r (λ z i above. off z (inr i) (omega (arith, l, above)))

pub filter_length : {X : Type 0} (p : X → Bool) (x : X) (xs : List X) → length (filter p (x ∷ xs)) ≡ bit (p x) + length (filter p xs)
filter_length p x xs = go (p x)
  where
    go : (b : Bool) → length (cond b (x ∷ filter p xs) (filter p xs)) ≡ bit b + length (filter p xs)
    go true = omega arith
    go false = omega arith

-- Slabs

module _ {limit : ℕ} (order : ℕ) (c : Cache) (m : Machine) (w : IsWellFormed limit order m) (in_c : IsIn c m.caches) where
  -- a full slab has a live object
  full_some : (s : Slab) → IsIn s c.slabs → is_full s ≡ true → list_any (λ live. live) s.live ≡ true
  full_some s i e = go s.live (subst (λ n. 0 < n) (sym (is_slab order c m w in_c s i).count) (is_slab order c m w in_c s i).fit.some) e
    where
      go : (flags : List Bool) → 0 < length flags → list_all (λ live. live) flags ≡ true → list_any (λ live. live) flags ≡ true
      go [] some all = absurd (omega (arith, some))
      go (true ∷ flags) some all = refl
      go (false ∷ flags) some all = absurd (false≢true all)

  -- each slab is exactly one of full, partial and empty
  one_kind : (s : Slab) → IsIn s c.slabs → bit (is_full s) + bit (is_partial s) + bit (is_empty s) ≡ 1
  one_kind s i = go (is_full s) (list_any (λ live. live) s.live) (full_some s i)
    where
      go : (full some : Bool) → (full ≡ true → some ≡ true) → bit full + bit (not full && not (not some)) + bit (not some) ≡ 1
      go true true e = refl
      go true false e = absurd (false≢true (e refl))
      go false true e = refl
      go false false e = refl

  beside_there : (s : Slab) (p : ℕ) → IsIn s c.slabs → IsIn p (places_in c s) → live_beside (cache_as_known c) p ≡ places_in c s
  beside_there s p i j = let b : IsBeside c s p = beside_at c s p j in
      ap (λ x. live_beside (cache_as_known c) x) b.at ∙ beside_is order c m w in_c s b.index i (subst (λ n. b.index < n) (is_slab order c m w in_c s i).count b.index_in)

  -- if a live object of a slab begins at place p, the slab is full exactly if `is_slab_full` of the known cache is true at p
  full_told : (s : Slab) (p : ℕ) → IsIn s c.slabs → IsIn p (places_in c s) → holdings.is_slab_full (cache_as_known c) p ≡ is_full s
  full_told s p i j = ap (λ ps. eqb (length ps) (layout c).count) (beside_there s p i j) ∙ go (is_full s) refl (is_slab order c m w in_c s i).count
    where
      go : (full : Bool) → is_full s ≡ full → length s.live ≡ (layout c).count → eqb (length (places_in c s)) (layout c).count ≡ full
      go true e count = eq-eqb (length (places_in c s)) (layout c).count (full_count c s e ∙ count)
      go false e count = ne_eqb (length (places_in c s)) (layout c).count (λ same. let less : length (places_in c s) < length s.live = less_count c s e in absurd (omega (arith, less, same, count)))

  no_places : (s : Slab) → list_any (λ live. live) s.live ≡ false → places_in c s ≡ []
  no_places s e = ap (λ os. map (λ o. o.place) (os ++ [])) (none_live (alone c s) s 0 s.live e)

  place_some : (s : Slab) (p : ℕ) → IsIn p (places_in c s) → list_any (λ live. live) s.live ≡ true
  place_some s p i = go (list_any (λ live. live) s.live) refl
    where
      go : (b : Bool) → list_any (λ live. live) s.live ≡ b → b ≡ true
      go true e = refl
      go false e = elim (subst (IsIn p) (no_places s e) i) [ ]

  places_rise : (s : Slab) → IsIn s c.slabs → RisesFrom 0 (places_in c s)
  places_rise s i = slabs_rise (alone c s) (s ∷ []) 0 0 (record { fit = (is_slab order c m w in_c s i).fit; count = (is_slab order c m w in_c s i).count }, tt) (omega arith, tt) (tt, tt) (omega arith, tt)

  -- In the lemmas below, `test` is a test of a slab at the first place of a live object, and `kind` is the same test of the slab
  -- itself. No slab without live objects passes `kind`.
  module _ (test : ℕ → Bool) (kind : Slab → Bool)
      (same : (s : Slab) (p : ℕ) → IsIn s c.slabs → IsIn p (places_in c s) → test p ≡ kind s)
      (off : (s : Slab) → IsIn s c.slabs → list_any (λ live. live) s.live ≡ false → kind s ≡ false) where
    abbrev counts : ℕ → Bool
    counts p = eqb (slice_index (live_beside (cache_as_known c) p) 0) p && test p

    one_slab : (s : Slab) → IsIn s c.slabs → length (filter counts (places_in c s)) ≡ bit (kind s)
    one_slab s i = go (list_any (λ live. live) s.live) refl
      where
        go : (b : Bool) → list_any (λ live. live) s.live ≡ b → length (filter counts (places_in c s)) ≡ bit (kind s)
        go true e = one_first 0 (places_in c s) (kind s) counts (places_rise s i)
            (λ p j. ap (λ ps. eqb (slice_index ps 0) p && test p) (beside_there s p i j) ∙ ap (λ b. eqb (slice_index (places_in c s) 0) p && b) (same s p i j)) (some_count c s e)
        go false e = ap (λ ps. length (filter counts ps)) (no_places s e) ∙ sym (ap bit (off s i e))

    all_slabs : (ss : List Slab) → ((s : Slab) → IsIn s ss → IsIn s c.slabs) → length (filter counts (map (λ o. o.place) (flat_map (live_in c) ss))) ≡ length (filter kind ss)
    all_slabs [] all = refl
    all_slabs (s ∷ ss) all =
        let rest : length (filter counts (map (λ o. o.place) (flat_map (live_in c) ss))) ≡ length (filter kind ss) = all_slabs ss (λ t i. all t (inr i)) in
        let here : length (filter counts (map (λ o. o.place) (live_in c s))) ≡ bit (kind s) = ap (λ os. length (filter counts (map (λ o. o.place) os))) (sym (append-nil (live_in c s))) ∙ one_slab s (all s (inl refl)) in
        let parts : length (filter counts (map (λ o. o.place) (live_in c s ++ flat_map (live_in c) ss))) ≡ length (filter counts (map (λ o. o.place) (live_in c s))) + length (filter counts (map (λ o. o.place) (flat_map (live_in c) ss))) =
        ap (λ ps. length (filter counts ps)) (map-append (λ o. o.place) (live_in c s) (flat_map (live_in c) ss))
        ∙ (ap length (filter-append counts (map (λ o. o.place) (live_in c s)) (map (λ o. o.place) (flat_map (live_in c) ss)))
        ∙ length-append (filter counts (map (λ o. o.place) (live_in c s))) (filter counts (map (λ o. o.place) (flat_map (live_in c) ss)))) in
        let last : length (filter kind (s ∷ ss)) ≡ bit (kind s) + length (filter kind ss) = filter_length kind s ss in
        omega (arith, rest, here, parts, last)

    pub counted : count_slabs test (cache_as_known c) ≡ length (filter kind c.slabs)
    counted = all_slabs c.slabs (λ s i. i)

  full_counted : count_slabs (holdings.is_slab_full (cache_as_known c)) (cache_as_known c) ≡ length (filter is_full c.slabs)
  full_counted = counted (holdings.is_slab_full (cache_as_known c)) is_full full_told (λ s i e. go (is_full s) (full_some s i) e)
    where
      go : {some : Bool} (b : Bool) → (b ≡ true → some ≡ true) → some ≡ false → b ≡ false
      go true f e = absurd (false≢true (sym e ∙ f refl))
      go false f e = refl

  partial_counted : count_slabs (λ p. not (holdings.is_slab_full (cache_as_known c) p)) (cache_as_known c) ≡ length (filter is_partial c.slabs)
  partial_counted = counted (λ p. not (holdings.is_slab_full (cache_as_known c) p)) is_partial
      (λ s p i j. ap not (full_told s p i j) ∙ go (is_full s) (list_any (λ live. live) s.live) (place_some s p j))
      (λ s i e. off (is_full s) (list_any (λ live. live) s.live) e)
    where
      go : (full some : Bool) → some ≡ true → not full ≡ (not full && not (not some))
      go true some e = refl
      go false true e = refl
      go false false e = sym e

      off : (full some : Bool) → some ≡ false → (not full && not (not some)) ≡ false
      off true some e = refl
      off false true e = e
      off false false e = refl

  kinds : (ss : List Slab) → ((s : Slab) → IsIn s ss → IsIn s c.slabs) → length (filter is_full ss) + length (filter is_partial ss) + length (filter is_empty ss) ≡ length ss
  kinds [] all = refl
  kinds (s ∷ ss) all =
      let rest : length (filter is_full ss) + length (filter is_partial ss) + length (filter is_empty ss) ≡ length ss = kinds ss (λ t i. all t (inr i)) in
      let one : bit (is_full s) + bit (is_partial s) + bit (is_empty s) ≡ 1 = one_kind s (all s (inl refl)) in
      let full : length (filter is_full (s ∷ ss)) ≡ bit (is_full s) + length (filter is_full ss) = filter_length is_full s ss in
      let partial : length (filter is_partial (s ∷ ss)) ≡ bit (is_partial s) + length (filter is_partial ss) = filter_length is_partial s ss in
      let empty : length (filter is_empty (s ∷ ss)) ≡ bit (is_empty s) + length (filter is_empty ss) = filter_length is_empty s ss in
      omega (arith, rest, one, full, partial, empty)

  -- the cache's row agrees with what is seen of the cache, if a cache with a slab is known as one that may have an empty slab
  pub row_seen : (may_have_empty : ℕ → Bool) → ((s : Slab) → IsIn s c.slabs → may_have_empty c.number ≡ true) → is_row may_have_empty (cache_as_known c, row_of_cache c) ≡ true
  row_seen may_have_empty may = and_from _ _
      (and_from _ _ (and_from _ _ (eq-eqb c.number c.number refl) (eq-eqb (length (live_objects c)) (length (map (λ o. o.place) (live_objects c))) (sym (length-map (live_objects c) (λ o. o.place))))) (hidden c.slabs may))
      (and_from _ _ (eq-eqb (length (filter is_full c.slabs)) (count_slabs (holdings.is_slab_full (cache_as_known c)) (cache_as_known c)) (sym full_counted))
      (eq-eqb (length (filter is_partial c.slabs)) (count_slabs (λ p. not (holdings.is_slab_full (cache_as_known c) p)) (cache_as_known c)) (sym partial_counted)))
    where
      hidden : (ss : List Slab) → ((s : Slab) → IsIn s ss → may_have_empty c.number ≡ true) → (eqb (length (filter is_empty ss)) 0 || may_have_empty c.number) ≡ true
      hidden [] may = refl
      hidden (s ∷ ss) may = ap (λ b. eqb (length (filter is_empty (s ∷ ss))) 0 || b) (may s (inl refl)) ∙ or-true (eqb (length (filter is_empty (s ∷ ss))) 0)

-- Orders

abbrev pub is_order : ℕ → Block → Bool
is_order k b = eqb b.order k

slabs_of_order : (k : ℕ) (c : Cache) (ss : List Slab) → length (filter (is_order k) (map (slab_block c) ss)) ≡ (if eqb (layout c).order k then length ss else 0)
slabs_of_order k c ss = go (eqb (layout c).order k) refl ss
  where
    go : (b : Bool) → eqb (layout c).order k ≡ b → (ss : List Slab) → length (filter (is_order k) (map (slab_block c) ss)) ≡ (if b then length ss else 0)
    go true e [] = refl
    go false e [] = refl
    go true e (s ∷ ss) = let rest : length (filter (is_order k) (map (slab_block c) ss)) ≡ length ss = go true e ss in
        let one : bit (is_order k (slab_block c s)) ≡ 1 = ap bit e in omega (arith, filter_length (is_order k) (slab_block c s) (map (slab_block c) ss), rest, one)
    go false e (s ∷ ss) = let rest : length (filter (is_order k) (map (slab_block c) ss)) ≡ 0 = go false e ss in
        let one : bit (is_order k (slab_block c s)) ≡ 0 = ap bit e in omega (arith, filter_length (is_order k) (slab_block c s) (map (slab_block c) ss), rest, one)

abbrev slabs_told : ℕ → KnownCache × CacheRow → ℕ
slabs_told k p = if eqb p.0.order k then p.1.full + p.1.partial + p.1.empty else 0

module _ {limit : ℕ} (order : ℕ) (m : Machine) (w : IsWellFormed limit order m) where
  slabs_seen : (k : ℕ) (cs : List Cache) → ((c : Cache) → IsIn c cs → IsIn c m.caches)
      → sum_by (slabs_told k) (zip (map cache_as_known cs) (map row_of_cache cs)) ≡ length (filter (is_order k) (flat_map slab_blocks cs))
  slabs_seen k [] all = refl
  slabs_seen k (c ∷ cs) all =
      let rest : sum_by (slabs_told k) (zip (map cache_as_known cs) (map row_of_cache cs)) ≡ length (filter (is_order k) (flat_map slab_blocks cs)) = slabs_seen k cs (λ d i. all d (inr i)) in
      let sum : length (filter is_full c.slabs) + length (filter is_partial c.slabs) + length (filter is_empty c.slabs) ≡ length c.slabs = kinds order c m w (all c (inl refl)) c.slabs (λ s i. i) in
      let here : slabs_told k (cache_as_known c, row_of_cache c) ≡ length (filter (is_order k) (slab_blocks c)) = ap (λ n. if eqb (layout c).order k then n else 0) sum ∙ sym (slabs_of_order k c c.slabs) in
      let parts : length (filter (is_order k) (slab_blocks c ++ flat_map slab_blocks cs)) ≡ length (filter (is_order k) (slab_blocks c)) + length (filter (is_order k) (flat_map slab_blocks cs)) =
      ap length (filter-append (is_order k) (slab_blocks c) (flat_map slab_blocks cs)) ∙ length-append (filter (is_order k) (slab_blocks c)) (filter (is_order k) (flat_map slab_blocks cs)) in
      omega (arith, sum_by-cons (slabs_told k) (cache_as_known c, row_of_cache c) (zip (map cache_as_known cs) (map row_of_cache cs)), rest, here, parts)

  -- the number of taken blocks of order k is the number that `known_count` computes from the known holdings and the rows
  pub taken_seen_by_order : (k : ℕ) → reports.taken_count m k ≡ known_count (holdings_of m) (rows_of_caches m) k
  unfolding model.taken_blocks holdings_of
  taken_seen_by_order k = ap length (filter-append (is_order k) m.blocks (flat_map slab_blocks m.caches))
      ∙ (length-append (filter (is_order k) m.blocks) (filter (is_order k) (flat_map slab_blocks m.caches))
      ∙ ap (λ n. length (filter (is_order k) m.blocks) + n) (sym (slabs_seen k m.caches (λ c i. i))))

  -- each row agrees with what is seen of the row's cache
  pub rows_seen : (may_have_empty : ℕ → Bool) → ((c : Cache) (s : Slab) → IsIn c m.caches → IsIn s c.slabs → may_have_empty c.number ≡ true) → list_all (is_row may_have_empty) (zip (map cache_as_known m.caches) (rows_of_caches m)) ≡ true
  rows_seen may_have_empty may = go m.caches (λ c i. i)
    where
      go : (cs : List Cache) → ((c : Cache) → IsIn c cs → IsIn c m.caches) → list_all (is_row may_have_empty) (zip (map cache_as_known cs) (map row_of_cache cs)) ≡ true
      go [] all = refl
      go (c ∷ cs) all = and_from _ _ (row_seen order c m w (all c (inl refl)) may_have_empty (λ s j. may c s (all c (inl refl)) j)) (go cs (λ d i. all d (inr i)))
