-- No two taken blocks of a tenant's machine begin at the same frame.
use Rattle.std.proofs.Common.{◌≡◌, ◌≢◌, ℕ, ◌+◌, ◌≤◌, true, cond, List, [], ◌∷◌, map, Some, None, sym, ap, ◌∙◌, inl, inr, refl, arith}
use Rattle.std.specs.Prelude.{flat_map, option_map}
use Rattle.model_core.specs.Blocks.{Block}
use Rattle.model_core.specs.Machine.{Slab, Cache, Machine, slab_block, slab_blocks, taken_blocks, order_in}
use Rattle.model_core.specs.WellFormed.{RisesFrom}
use Rattle.model_core.specs.Elements.{IsIn}
use Rattle.model_core.proofs.Lists.{map_in, flat_map_in, key_above}
use Rattle.space_core.specs.Content as spaces
use Rattle.buddy_core.specs.Content as buddies
use Rattle.slab_tables.specs.Content.{Content}
use Rattle.machine_changes.specs.Shows.{machine_frame_of, has_slab, ShowsMachine}
use Rattle.machine_changes.specs.Steady.{IsSteady}
use Rattle.machine_changes.proofs.SlabFacts.{has_it, one_slab}
use Rattle.machine_changes.proofs.Lookups.{some_none, in_found}
use Rattle.machine_changes.proofs.PageReserved.{order_found}
use Rattle.machine_changes.proofs.TakenBlocks.{slab_kept}
use Rattle.machine_changes.proofs.FigureSums.{AreKeyed, rising_keyed, append_keyed, mapped_keyed}

abbrev pub first : Block → ℕ
first z = z.first

module _ (r : spaces.Content) (b : buddies.Content) (s : Content) (t : ℕ) (m : Machine) (st : IsSteady r b s t) (h : ShowsMachine r b s t m) where
  -- z is the block of a slab of one of these caches
  record IsAmong (cs : List Cache) (z : Block) : Type 0 where
    cache : Cache
    slab : Slab
    cache_in : IsIn cache cs
    slab_in : IsIn slab cache.slabs
    same : slab_block cache slab ≡ z

  of_some : (cs : List Cache) (z : Block) → IsIn z (flat_map slab_blocks cs) → IsAmong cs z
  of_some cs z i =
      let cache = flat_map_in slab_blocks z cs i in
      let slab = map_in (slab_block cache.0) z cache.0.slabs cache.2 in
      record { cache = cache.0; slab = slab.0; cache_in = cache.1; slab_in = slab.1; same = slab.2 }

  -- two slabs of the machine that begin at the same frame belong to the same cache
  one_cache : (x x' : Cache) (y y' : Slab) → IsIn x m.caches → IsIn x' m.caches → IsIn y x.slabs → IsIn y' x'.slabs → y'.first ≡ y.first
      → x'.number ≡ x.number
  one_cache x x' y y' i i' j j' same =
      let is = slab_kept r b s t m st h x y i j in
      let is' = slab_kept r b s t m st h x' y' i' j' in
      (one_slab r s t x.number y.first is.machine_frame x'.number y'.first is'.machine_frame is.kept is'.kept is.slab is'.slab same).number

  slabs_keyed : (n : ℕ) (cs : List Cache) → RisesFrom n (map (λ x. x.number) cs) → ((x : Cache) → IsIn x cs → IsIn x m.caches)
      → AreKeyed first (flat_map slab_blocks cs)
  slabs_keyed n [] rises inside = tt
  slabs_keyed n (x ∷ cs) (low, rises) inside =
      append_keyed first (slab_blocks x) (flat_map slab_blocks cs)
      (mapped_keyed (slab_block x) first x.slabs
      (rising_keyed (λ y. y.first) 0 x.slabs (h.slabs_rise x.number x (in_found (λ c. c.number) 0 x m.caches h.caches_rise (inside x (inl refl))))))
      (slabs_keyed (x.number + 1) cs rises (λ c i. inside c (inr i)))
      (λ z w i j same.
      let here = map_in (slab_block x) z x.slabs i in
      let there = of_some cs w j in
      let above : x.number + 1 ≤ there.cache.number = key_above (λ c. c.number) (x.number + 1) there.cache cs rises there.cache_in in
      let one : there.cache.number ≡ x.number =
      one_cache x there.cache here.0 there.slab (inside x (inl refl)) (inside there.cache (inr there.cache_in)) here.1 there.slab_in
      (ap first there.same ∙ same ∙ sym (ap first here.2)) in
      absurd (omega arith))

  -- no page block begins at the first frame of a slab
  no_page : (z w : Block) → IsIn z m.blocks → IsIn w (flat_map slab_blocks m.caches) → w.first ≢ z.first
  no_page z w i j same =
      let there = of_some m.caches w j in
      let is = slab_kept r b s t m st h there.cache there.slab there.cache_in there.slab_in in
      let found : order_in m.blocks z.first ≡ Some z.order =
      order_found m.blocks z.first ∙ ap (option_map (λ x. x.order)) (in_found first 0 z m.blocks h.blocks_rise i) in
      let has : has_slab s (machine_frame_of s.top r.slots t z.first) ≡ true =
      sym (ap (λ f. has_slab s (machine_frame_of s.top r.slots t f)) (ap first there.same ∙ same))
      ∙ has_it r s t there.cache.number there.slab.first is.machine_frame is.kept is.slab in
      some_none (sym found ∙ h.blocks z.first ∙ ap (λ v. cond v None (buddies.taken_of (buddies.holding_of t b) z.first)) has)

  pub blocks_keyed : AreKeyed first (taken_blocks m)
  unfolding taken_blocks
  blocks_keyed =
      append_keyed first m.blocks (flat_map slab_blocks m.caches) (rising_keyed first 0 m.blocks h.blocks_rise)
      (slabs_keyed 0 m.caches h.caches_rise (λ x i. i)) no_page
