-- The frames of empty slabs are seen as vacant. So empty slabs have at most as many frames as are seen as vacant.
use Rattle.std.proofs.Common.{◌≡◌, ℕ, zero, suc, ◌+◌, ◌-◌, ◌*◌, ◌/◌, ◌^◌, ◌<◌, ◌≤◌, Bool, true, false, not, ◌&&◌, eqb, ltb, leb, List, [], ◌∷◌, map, length, refl, sym, ap, ◌∙◌, subst, ◌⊎◌, inl, inr, arith}
use Rattle.std.specs.Prelude.{filter, flat_map}
use Rattle.std.specs.List.{list_any, range_with_len}
use Rattle.std.proofs.Math.Nat.{mul-div_cancel, div-mul-le_self, lt-div-mul-add}
use Rattle.std.proofs.lemmas.Nat.{pow_pos}
use Rattle.std.proofs.lemmas.Bool.{false≢true, and_parts, and_from, leb-true, ltb-true, le-leb, lt-ltb, eqb-true, eq-eqb, ne_eqb, false_from_ne_true, not_from_false}
use Rattle.std.proofs.lemmas.List.{length-map}
use Rattle.std.proofs.lemmas.List.Filters.{length-filter_both}
use Rattle.model_core.specs.Blocks.{Block, block, HasFrame}
use Rattle.model_core.specs.Machine.{Slab, Cache, Machine, layout, in_block, slab_block, slab_blocks}
use Rattle.model_core.specs.Machine as model
use Rattle.model_core.specs.Slabs.{without_empty, empty_blocks, reaped}
use Rattle.model_core.specs.Operations.{overlaps}
use Rattle.model_core.specs.CacheOperations.{frames_of}
use Rattle.model_core.specs.WellFormed.{IsApart, AreApart, IsWellFormed}
use Rattle.model_core.specs.Elements.{IsIn}
use Rattle.model_core.proofs.Lists.{each_in, in_filter, some_any, any_in, any_map, any_none, each_from, filter_in, in_map, map_in, in_append, in_flat_map}
use Rattle.model_core.proofs.BlocksApart.{in_block-from, apart_filter, one_side}
use Rattle.model_core.proofs.LaidSlabs.{Laid, all_laid, laid_block, in_laid, Placed, IsLaidOut, laid_out, blocks_laid}
use Rattle.model_core.proofs.MemoryKept.{frame_slot}
use Rattle.model_core.proofs.SlabAmongOthers.{is_empty_laid, kept_laid, gone_laid}
use Rattle.model_core.proofs.PageSteps.{reaped_kept}
use Rattle.model_core.proofs.Objects.{IsPageByte, page_apart}
use Rattle.model_core.proofs.Room.{in_range}
use Rattle.promise_core.specs.Holdings.{known_blocks, is_vacant, blocks_of_slot, vacant_blocks}
use Rattle.promise_core.proofs.ObjectGrids.{listed}
use Rattle.promise_kept.specs.Meets.{holdings_of}
use Rattle.promise_kept.proofs.EmptySlabsUnseen.{holdings_reaped}
use Rattle.promise_kept.proofs.SeenBlocks.{taken_seen}

-- Counting

-- a list that contains n consecutive numbers has at least n elements
row_fits_in : (n a : ℕ) (ys : List ℕ) → ((x : ℕ) → a ≤ x → x < a + n → IsIn x ys) → n ≤ length ys
row_fits_in zero a ys all = omega arith
row_fits_in (suc n) a ys all =
    let one : 1 ≤ length (filter (λ y. eqb y a) ys) = listed a (filter (λ y. eqb y a) ys) (in_filter (λ y. eqb y a) a ys (all a (omega arith) (omega arith)) (eq-eqb a a refl)) in
    let rest : n ≤ length (filter (λ y. not (eqb y a)) ys) = row_fits_in n (a + 1) (filter (λ y. not (eqb y a)) ys)
    (λ x low high. in_filter (λ y. not (eqb y a)) x ys (all x (omega arith) (omega arith)) (not_from_false (eqb x a) (ne_eqb x a (λ e. absurd (omega arith))))) in
    let both : length (filter (λ y. eqb y a) ys) + length (filter (λ y. not (eqb y a)) ys) ≡ length ys = length-filter_both (λ y. eqb y a) (λ y. not (eqb y a)) (λ x. refl) ys in
    omega (arith, one, rest, both)

in_frames : Block → ℕ → Bool
in_frames b x = leb b.first x && ltb x (b.first + 2 ^ b.order)

-- if blocks share no frame, a list that contains all their frames has at least as many elements as the blocks have frames
blocks_fit : (bs : List Block) (ys : List ℕ) → AreApart bs → ((b : Block) → IsIn b bs → (x : ℕ) → HasFrame b x → IsIn x ys) → frames_of bs ≤ length ys
unfolding in_frames
blocks_fit [] ys apart all = omega arith
blocks_fit (b ∷ bs) ys (first, apart) all =
    let one : 2 ^ b.order ≤ length (filter (in_frames b) ys) = row_fits_in (2 ^ b.order) b.first (filter (in_frames b) ys)
    (λ x low high. in_filter (in_frames b) x ys (all b (inl refl) x (low, high)) (and_from (leb b.first x) (ltb x (b.first + 2 ^ b.order)) (le-leb b.first x low) (lt-ltb x (b.first + 2 ^ b.order) high))) in
    let rest : frames_of bs ≤ length (filter (λ x. not (in_frames b x)) ys) = blocks_fit bs (filter (λ x. not (in_frames b x)) ys) apart
    (λ d i x has. in_filter (λ x. not (in_frames b x)) x ys (all d (inr i) x has) (not_from_false (in_frames b x) (false_from_ne_true (in_frames b x) (λ e.
    let p : (leb b.first x ≡ true) × (ltb x (b.first + 2 ^ b.order) ≡ true) = and_parts (leb b.first x) (ltb x (b.first + 2 ^ b.order)) e in
    each_in (IsApart b) d bs first i x (leb-true b.first x p.0, ltb-true x (b.first + 2 ^ b.order) p.1) has)))) in
    let both : length (filter (in_frames b) ys) + length (filter (λ x. not (in_frames b x)) ys) ≡ length ys = length-filter_both (in_frames b) (λ x. not (in_frames b x)) (λ x. refl) ys in
    omega (arith, one, rest, both)

-- The frames of empty slabs

module _ (limit order : ℕ) (m : Machine) (w : IsWellFormed limit order m) where
  laid_m : IsLaidOut order m.slots m.blocks (all_laid m.caches) m.bytes
  laid_m = laid_out order m w

  -- a block that is seen as taken shares no frame with an empty slab
  not_taken : (b t : Block) (x : ℕ) → IsIn b (flat_map empty_blocks m.caches) → IsIn t (known_blocks (holdings_of m)) → HasFrame b x → HasFrame t x → ⊥
  unfolding model.taken_blocks reaped
  not_taken b t x in_b in_t has_b has_t =
      let place : ℕ = x * 4096 in
      let here : place / 4096 ≡ x = mul-div_cancel x (omega arith) in
      let gone : list_any (in_laid place) (list_empty) ≡ true = sym (any_map (in_block place) laid_block list_empty)
      ∙ any_in (in_block place) b (map laid_block list_empty) (subst (IsIn b) (gone_laid m.caches) in_b) (in_block-from place b (subst (HasFrame b) (sym here) has_b)) in
      let there : in_block place t ≡ true = in_block-from place t (subst (HasFrame t) (sym here) has_t) in
      go place gone there (in_append t m.blocks (flat_map slab_blocks (map without_empty m.caches))
      (taken_seen order (reaped m) t (reaped_kept order m w) (subst (λ h. IsIn t (known_blocks h)) (sym (holdings_reaped m)) in_t)))
    where
      list_empty : List Laid
      list_empty = filter is_empty_laid (all_laid m.caches)

      go : (place : ℕ) → list_any (in_laid place) list_empty ≡ true → in_block place t ≡ true → (IsIn t m.blocks ⊎ IsIn t (flat_map slab_blocks (map without_empty m.caches))) → ⊥
      go place gone there (inl i) =
          let page : IsPageByte m place = record { page = t; page_in = i; in_page = there } in
          let some : (l : Laid) × IsIn l list_empty × (in_laid place l ≡ true) = some_any (in_laid place) list_empty gone in
          false≢true (sym (page_apart order m place laid_m page) ∙ any_in (in_laid place) some.0 (all_laid m.caches) (filter_in is_empty_laid some.0 (all_laid m.caches) some.1).0 some.2)
      go place gone there (inr i) =
          let kept : List Laid = filter (λ l. not (is_empty_laid l)) (all_laid m.caches) in
          let listed : IsIn t (map laid_block kept) = subst (λ ls. IsIn t (map laid_block ls)) (sym (kept_laid m.caches)) (subst (IsIn t) (blocks_laid (map without_empty m.caches)) i) in
          false≢true (sym (one_side laid_block is_empty_laid (all_laid m.caches) place laid_m.apart_slabs gone) ∙ (sym (any_map (in_block place) laid_block kept) ∙ any_in (in_block place) t (map laid_block kept) listed there))

  shares : (x : ℕ) (t : Block) → overlaps (block x 0) t ≡ true → HasFrame t x
  shares x t e =
      let p : (ltb x (t.first + 2 ^ t.order) ≡ true) × (ltb t.first (x + 2 ^ 0) ≡ true) = and_parts (ltb x (t.first + 2 ^ t.order)) (ltb t.first (x + 2 ^ 0)) e in
      let low : t.first < x + 1 = ltb-true t.first (x + 1) p.1 in
      (omega arith, ltb-true x (t.first + 2 ^ t.order) p.0)

  -- a frame of an empty slab is seen as vacant
  pub frame_vacant : (b : Block) → IsIn b (flat_map empty_blocks m.caches) → (x : ℕ) → HasFrame b x → IsIn (block x 0) (vacant_blocks order (holdings_of m) 0)
  unfolding vacant_blocks holdings_of
  frame_vacant b i x has =
      let l : (l : Laid) × IsIn l (filter is_empty_laid (all_laid m.caches)) × (laid_block l ≡ b) = map_in laid_block b (filter is_empty_laid (all_laid m.caches)) (subst (IsIn b) (gone_laid m.caches) i) in
      let placed : Placed order m.slots b = subst (Placed order m.slots) l.2 (each_in (λ l. Placed order m.slots (laid_block l)) l.0 (all_laid m.caches) laid_m.placed_slabs (filter_in is_empty_laid l.0 (all_laid m.caches) l.1).0) in
      let u : (v : ℕ) × IsIn v m.slots × (eqb v (b.first / 2 ^ order) ≡ true) = some_any (λ v. eqb v (b.first / 2 ^ order)) m.slots placed.1 in
      let slot : x / 2 ^ order ≡ u.0 = frame_slot order x b placed.0 has ∙ sym (eqb-true u.0 (b.first / 2 ^ order) u.2) in
      let low : u.0 * 2 ^ order ≤ x = subst (λ v. v * 2 ^ order ≤ x) slot (div-mul-le_self x (2 ^ order)) in
      let high : x < u.0 * 2 ^ order + 2 ^ order = subst (λ v. x < v * 2 ^ order + 2 ^ order) slot (lt-div-mul-add (pow_pos order)) in
      let power : 2 ^ (order - 0) ≡ 2 ^ order = ap (λ n. 2 ^ n) (omega arith) in
      let row : u.0 * 2 ^ (order - 0) ≡ u.0 * 2 ^ order = ap (λ n. u.0 * n) power in
      let same : block (x * 2 ^ 0) 0 ≡ block x 0 = ap (λ f. block f 0) (omega arith) in
      in_filter (is_vacant (holdings_of m)) (block x 0) (flat_map (blocks_of_slot order 0) m.slots)
      (in_flat_map (blocks_of_slot order 0) (block x 0) u.0 m.slots u.1 (subst (λ d. IsIn d (blocks_of_slot order 0 u.0)) same
      (in_map (λ i. block (i * 2 ^ 0) 0) x (range_with_len (u.0 * 2 ^ (order - 0)) (2 ^ (order - 0))) (in_range x (u.0 * 2 ^ (order - 0)) (2 ^ (order - 0)) (omega (arith, low, row)) (omega (arith, high, power, row))))))
      (not_from_false (list_any (overlaps (block x 0)) (known_blocks (holdings_of m))) (any_none (overlaps (block x 0)) (known_blocks (holdings_of m)) (each_from (λ t. overlaps (block x 0) t ≡ false) (known_blocks (holdings_of m))
      (λ t in_t. false_from_ne_true (overlaps (block x 0) t) (λ e. not_taken b t x i in_t has (shares x t e))))))

  -- if blocks share no frame and each of them is an empty slab, they have at most as many frames as are seen as vacant
  pub empty_vacant : (bs : List Block) → AreApart bs → ((b : Block) → IsIn b bs → IsIn b (flat_map empty_blocks m.caches)) → frames_of bs ≤ length (vacant_blocks order (holdings_of m) 0)
  empty_vacant bs apart all =
      let fits : frames_of bs ≤ length (map (λ b. b.first) (vacant_blocks order (holdings_of m) 0)) = blocks_fit bs (map (λ b. b.first) (vacant_blocks order (holdings_of m) 0)) apart
      (λ b i x has. in_map (λ b. b.first) (block x 0) (vacant_blocks order (holdings_of m) 0) (frame_vacant b (all b i) x has)) in
      omega (arith, fits, length-map (vacant_blocks order (holdings_of m) 0) (λ b. b.first))

  pub empty_apart : AreApart (flat_map empty_blocks m.caches)
  empty_apart = subst AreApart (sym (gone_laid m.caches)) (apart_filter laid_block is_empty_laid (all_laid m.caches) laid_m.apart_slabs)
