-- Each machine that a kernel shows for one of its tenants is well formed.
use Rattle.std.proofs.Common.{◌≡◌, ◌≢◌, ℕ, ◌+◌, ◌-◌, ◌*◌, ◌/◌, ◌%◌, ◌^◌, ◌<◌, Bool, true, false, not, cond, List, [], ◌∷◌, ◌++◌, map, length, Option, Some, None, refl, sym, ap, ◌∙◌, subst, inl, inr, ⊎_elim, arith}
use Rattle.std.specs.Prelude.{◌&&◌, ◌||◌, flat_map, is_some, option_map}
use Rattle.std.specs.List.{list_any, AllByRecursion as Each}
use Rattle.std.proofs.lemmas.Bool.{and_parts, false≢true, false_from_ne_true}
use Rattle.std.proofs.lemmas.List.{map-id}
use Rattle.model_core.specs.declared.limits.TheConstants.{FRAME_BYTES}
use Rattle.model_core.specs.Blocks.{Block, block, HasFrame}
use Rattle.model_core.specs.Layouts.{Layout, is_size, is_alignment, is_pattern, in_object}
use Rattle.model_core.specs.Machine.{Slab, Cache, Machine, holds, slot_of, in_block, layout, slab_block, slab_blocks, taken_blocks}
use Rattle.model_core.specs.Slabs.{cache_of}
use Rattle.model_core.specs.WellFormed.{RisesFrom, IsApart, AreApart, IsPlaced, IsCut, IsCache, in_slab, in_object_of, in_cache, is_mapped, IsWellFormed}
use Rattle.model_core.specs.Elements.{IsIn}
use Rattle.model_core.proofs.Lists.{each_from, key_above, in_append, map_in, in_map, flat_map_in, in_flat_map, find_in, in_found, some_any, any_in, any_none, none_any, each_in}
use Rattle.model_core.proofs.BlocksApart.{in_block-true, Across, apart_append}
use Rattle.model_core.proofs.ObjectsApart.{one_key}
use Rattle.space_core.specs.Content as spaces
use Rattle.buddy_core.specs.Content as buddies
use Rattle.slab_tables.specs.declared.cache.Cache as own
use Rattle.slab_tables.specs.Content.{Content, IsSlabs, IsTableCache, kept_at, cache_at, index_of_cache, layout_numbers}
use Rattle.machine_changes.specs.Shows as showing
use Rattle.machine_changes.specs.Shows.{machine_frame_of, has_slab, bare, without_slabs, is_inside, is_live, IsSlab}
use Rattle.machine_changes.specs.Steady.{IsSteady}
use Rattle.machine_changes.proofs.Lookups.{some_none, some_same}
use Rattle.machine_changes.proofs.ObjectFlags.{length_flags}
use Rattle.machine_changes.proofs.PageLists.{order_told}
use Rattle.machine_changes.proofs.SlabFacts.{has_it, one_slab, slab_in, cache_kept, IsSlabKept}
use Rattle.machine_changes.proofs.SteadyParts.{in_table}
use Rattle.machine_changes.proofs.TakenBlocks.{slab_kept}
use Rattle.world_core.specs.Limits.{cache_limit}
use Rattle.kernel_core.specs.Holders.{ShownWellFormed}
use Rattle.kernel_core.proofs.CallEffects.{steady}

-- Lists of blocks whose keys rise

-- if two elements with different keys have blocks that share no frame, the blocks of a list that rises by key are apart
rising_apart : {X : Type 0} (key : X → ℕ) (f : X → Block) (n : ℕ) (xs : List X) → RisesFrom n (map key xs)
    → ((x y : X) → IsIn x xs → IsIn y xs → key x ≢ key y → IsApart (f x) (f y)) → AreApart (map f xs)
rising_apart key f n [] rises apart = tt
rising_apart {X} key f n (x ∷ xs) (low, rises) apart = (
  each_from (IsApart (f x)) (map f xs) (λ b i.
      let y = map_in f b xs i in
      let above = key_above key (key x + 1) y.0 xs rises y.1 in
      subst (IsApart (f x)) y.2 (apart x y.0 (inl refl) (inr y.1) (λ same. absurd (omega (arith, same, above))))),
  rising_apart key f (key x + 1) xs rises (λ y z i j. apart y z (inr i) (inr j)),
)

-- the same for lists of blocks, one list for each element
rising_lists : {X : Type 0} (key : X → ℕ) (g : X → List Block) (n : ℕ) (xs : List X) → RisesFrom n (map key xs)
    → ((x : X) → IsIn x xs → AreApart (g x))
    → ((x y : X) → IsIn x xs → IsIn y xs → key x ≢ key y → (a b : Block) → IsIn a (g x) → IsIn b (g y) → IsApart a b) → AreApart (flat_map g xs)
rising_lists key g n [] rises each apart = tt
rising_lists {X} key g n (x ∷ xs) (low, rises) each apart =
    apart_append (g x) (flat_map g xs) (each x (inl refl))
    (rising_lists key g (key x + 1) xs rises (λ y i. each y (inr i)) (λ y z i j. apart y z (inr i) (inr j)))
    (each_from (λ a. Each (IsApart a) (flat_map g xs)) (g x) (λ a i.
    each_from (IsApart a) (flat_map g xs) (λ b j.
    let y = flat_map_in g b xs j in
    let above = key_above key (key x + 1) y.0 xs rises y.1 in
    apart x y.0 (inl refl) (inr y.1) (λ same. absurd (omega (arith, same, above))) a b i y.2)))

module _ (r : spaces.Content) (b : buddies.Content) (s : Content) (t : ℕ) (m : Machine) (st : IsSteady r b s t) (w : IsSlabs s) (h : showing.ShowsMachine r b s t m) where
  abbrev taken : ℕ → Option ℕ
  taken f = buddies.taken_of (buddies.holding_of t b) f

  abbrev slab_list : List Block
  slab_list = flat_map slab_blocks m.caches

  -- the slab y of cache x is a slab of the tables
  abbrev Kept : Cache → Slab → Type 0
  Kept x y = IsSlabKept r b s t m h x.number y.first x y

  kept : (x : Cache) (y : Slab) → IsIn x m.caches → IsIn y x.slabs → Kept x y
  kept x y i j = slab_kept r b s t m st h x y i j

  -- Taken blocks

  page_is : (v : Bool) (o : Option ℕ) (k : ℕ) → cond v None o ≡ Some k → (v ≡ false) × (o ≡ Some k)
  page_is true o k is = absurd (some_none (sym is))
  page_is false o k is = (refl, is)

  page_taken : (z : Block) → IsIn z m.blocks → (has_slab s (machine_frame_of s.top r.slots t z.first) ≡ false) × (taken z.first ≡ Some z.order)
  page_taken z i =
      page_is (has_slab s (machine_frame_of s.top r.slots t z.first)) (taken z.first) z.order
      (sym (h.blocks z.first) ∙ order_told z m.blocks h.blocks_rise i)

  slab_taken : (x : Cache) (y : Slab) → IsIn x m.caches → IsIn y x.slabs → taken y.first ≡ Some (layout x).order
  slab_taken x y i j =
      let is = kept x y i j in
      (st.stands x.number y.first is.machine_frame is.kept is.slab).taken ∙ ap (λ (l : Layout). Some l.order) (sym is.layout)

  list_taken : (z : Block) → IsIn z slab_list → taken z.first ≡ Some z.order
  list_taken z i =
      let x = flat_map_in slab_blocks z m.caches i in
      let y = map_in (slab_block x.0) z x.0.slabs x.2 in
      subst (λ (q : Block). taken q.first ≡ Some q.order) y.2 (slab_taken x.0 y.0 x.1 y.1)

  pub any_taken : (z : Block) → IsIn z (m.blocks ++ slab_list) → taken z.first ≡ Some z.order
  any_taken z i = ⊎_elim (λ page. (page_taken z page).1) (list_taken z) (in_append z m.blocks slab_list i)

  placed : Each (IsPlaced s.top m) (m.blocks ++ slab_list)
  placed = each_from (IsPlaced s.top m) (m.blocks ++ slab_list) (λ z i.
      let is = st.sound.placed z.first z.order (any_taken z i) in
      (is.0, h.slots (z.first / 2 ^ s.top) ∙ is.1))

  -- two taken blocks that share a frame begin at the same frame
  same_first : (y z : Block) (f : ℕ) → taken y.first ≡ Some y.order → taken z.first ≡ Some z.order → HasFrame y f → HasFrame z f → y.first ≡ z.first
  same_first y z f e e' here there = st.sound.apart y.first y.order z.first z.order f e e' here there

  pages_apart : AreApart m.blocks
  pages_apart =
      subst AreApart (map-id m.blocks) (rising_apart (λ z. z.first) (λ z. z) 0 m.blocks h.blocks_rise (λ y z i j differ f here there.
      differ (same_first y z f (page_taken y i).1 (page_taken z j).1 here there)))

  cache_apart : (x : Cache) → IsIn x m.caches → AreApart (slab_blocks x)
  cache_apart x i =
      rising_apart (λ y. y.first) (slab_block x) 0 x.slabs
      (h.slabs_rise x.number x (in_found (λ z. z.number) 0 x m.caches h.caches_rise i))
      (λ y z j l differ f here there.
      differ (same_first (slab_block x y) (slab_block x z) f (slab_taken x y i j) (slab_taken x z i l) here there))

  caches_apart : (x x' : Cache) → IsIn x m.caches → IsIn x' m.caches → x.number ≢ x'.number → (a c : Block) → IsIn a (slab_blocks x) → IsIn c (slab_blocks x') → IsApart a c
  caches_apart x x' i i' differ a c j j' f here there =
      let y = map_in (slab_block x) a x.slabs j in
      let y' = map_in (slab_block x') c x'.slabs j' in
      let is = kept x y.0 i y.1 in
      let is' = kept x' y'.0 i' y'.1 in
      let first : y.0.first ≡ y'.0.first = same_first (slab_block x y.0) (slab_block x' y'.0) f (slab_taken x y.0 i y.1) (slab_taken x' y'.0 i' y'.1)
      (subst (λ q. HasFrame q f) (sym y.2) here) (subst (λ q. HasFrame q f) (sym y'.2) there) in
      differ (one_slab r s t x'.number y'.0.first is'.machine_frame x.number y.0.first is.machine_frame is'.kept is.kept is'.slab is.slab first).number

  slabs_apart : AreApart slab_list
  slabs_apart = rising_lists (λ x. x.number) slab_blocks 0 m.caches h.caches_rise cache_apart caches_apart

  across : Across m.blocks slab_list
  across = each_from (λ z. Each (IsApart z) slab_list) m.blocks (λ z i. each_from (IsApart z) slab_list (λ a j f here there.
      let x = flat_map_in slab_blocks a m.caches j in
      let y = map_in (slab_block x.0) a x.0.slabs x.2 in
      let is = kept x.0 y.0 x.1 y.1 in
      let first : y.0.first ≡ z.first = ap (λ (q : Block). q.first) y.2 ∙ same_first a z f (list_taken a j) (page_taken z i).1 there here in
      false≢true (sym (page_taken z i).0 ∙ ap (λ g. has_slab s (machine_frame_of s.top r.slots t g)) (sym first)
      ∙ has_it r s t x.0.number y.0.first is.machine_frame is.kept is.slab)))

  apart : AreApart (m.blocks ++ slab_list)
  apart = apart_append m.blocks slab_list pages_apart slabs_apart across

  -- Caches

  table_cache : (x : Cache) (cache : own.Cache) → cache_at s t x.number ≡ Some cache → IsTableCache cache
  table_cache x cache e = w.fits (index_of_cache t x.number) cache (in_table s t x.number cache e).cached

  bare_is : (x : Cache) (cache : own.Cache) → IsIn x m.caches → cache_at s t x.number ≡ Some cache → without_slabs x ≡ bare x.number cache
  bare_is x cache i e =
      some_same (ap (option_map without_slabs) (sym (in_found (λ z. z.number) 0 x m.caches h.caches_rise i)) ∙ h.caches x.number ∙ ap (option_map (bare x.number)) e)

  is_cut : (x : Cache) (y : Slab) → IsIn x m.caches → IsIn y x.slabs → IsCut x y
  is_cut x y i j =
      let is = kept x y i j in
      let colour = (st.stands x.number y.first is.machine_frame is.kept is.slab).colour in
      let align : x.align ≡ is.kept.layout.align = ap (λ (c : Cache). c.align) (bare_is x is.kept i is.slab.cached) in
      record {
        count = ap (λ (z : Slab). length z.live) is.is
            ∙ length_flags 0 (layout_numbers is.kept).count (is_live r t is.kept (kept_at s.kept is.machine_frame) y.first)
            ∙ ap (λ (l : Layout). l.count) (sym is.layout);
        colour = (
          colour.0,
          ap (λ (z : Slab). z.colour) is.is ∙ colour.1 ∙ sym (ap (λ n. n * (colour.0 % (layout x).colours)) align
              ∙ ap (λ (l : Layout). is.kept.layout.align * (colour.0 % l.colours)) is.layout),
        );
      }

  is_cache : (x : Cache) → IsIn x m.caches → IsCache x
  is_cache x i =
      let cached : cache_of m x.number ≡ Some x = in_found (λ z. z.number) 0 x m.caches h.caches_rise i in
      let there = cache_kept r b s t m h x.number x cached in
      let fits = table_cache x there.kept there.cached in
      record {
        sized = ap (λ (c : Cache). is_size c.size) there.same ∙ fits.size;
        aligned = ap (λ (c : Cache). is_alignment c.align) there.same ∙ fits.align;
        patterned = ap (λ (c : Cache). is_pattern c.pattern) there.same ∙ fits.pattern;
        counted = subst (λ (l : Layout). x.made < l.colours) (sym there.layout)
            (subst (λ n. n < (layout_numbers there.kept).colours) (sym (ap (λ (c : Cache). c.made) there.same)) fits.made);
        slabs_rise = h.slabs_rise x.number x cached;
        slabs_cut = each_from (IsCut x) x.slabs (λ y j. is_cut x y i j);
      }

  numbered : (x : Cache) → IsIn x m.caches → x.number < cache_limit
  numbered x i =
      let cached : cache_of m x.number ≡ Some x = in_found (λ z. z.number) 0 x m.caches h.caches_rise i in
      let there = cache_kept r b s t m h x.number x cached in
      (in_table s t x.number there.kept there.cached).number

  -- Places with a byte

  module _ (place : ℕ) where
    -- the place lies in a frame of this slab
    abbrev in_this : Cache → Slab → Bool
    in_this x y = in_block place (slab_block x y)

    -- a place that lies in no slab has a byte if and only if its slot is held
    outside : in_slab m place ≡ false → is_some (m.bytes place) ≡ is_mapped s.top m place
    outside out =
        let none = none_any (in_block place) slab_list out in
        let no_slab : (x : Cache) (y : Slab) → IsIn x m.caches → IsIn y x.slabs → in_this x y ≡ false = λ x y i j.
        each_in (λ z. in_block place z ≡ false) (slab_block x y) slab_list none
        (in_flat_map slab_blocks (slab_block x y) x m.caches i (in_map (slab_block x) y x.slabs j)) in
        let held = h.mapped place (λ c f n cache q.
        let is = slab_in r b s t m h c f n cache q in
        let x = is.there.shown in
        let y = find_in _ _ x.slabs is.slab in
        ap (λ (l : Layout). in_block place (block f l.order)) (sym is.there.layout)
        ∙ no_slab x _ (find_in _ x m.caches is.there.cached).0 y.0) in
        let objects : list_any (in_cache place) m.caches ≡ false = any_none (in_cache place) m.caches (each_from (λ x. in_cache place x ≡ false) m.caches (λ x i.
        any_none (in_object_of place x) x.slabs (each_from (λ y. in_object_of place x y ≡ false) x.slabs (λ y j.
        ap (λ v. v && in_object (layout x) x.size y.colour (place - FRAME_BYTES * y.first)) (no_slab x y i j))))) in
        held ∙ alone (holds m (slot_of s.top place)) (in_slab m place) (list_any (in_cache place) m.caches) out objects
      where
        alone : (u v o : Bool) → v ≡ false → o ≡ false → u ≡ ((u && not v) || o)
        alone true v o e e' = ap (λ x. not x || o) (sym e)
        alone false v o e e' = sym e'

    -- a place that lies in a slab has a byte if and only if it lies in an object of the slab
    module _ (x : Cache) (y : Slab) (i : IsIn x m.caches) (j : IsIn y x.slabs) (here : in_this x y ≡ true) where
      abbrev in_one : Bool
      in_one = in_object (layout x) x.size y.colour (place - FRAME_BYTES * y.first)

      has_byte : is_some (m.bytes place) ≡ in_one
      has_byte =
          let is = kept x y i j in
          let size : x.size ≡ is.kept.layout.size = ap (λ (c : Cache). c.size) (bare_is x is.kept i is.slab.cached) in
          let off : ℕ = place - FRAME_BYTES * y.first in
          h.in_slab place x.number y.first is.machine_frame is.kept is.slab (ap (λ (l : Layout). in_block place (block y.first l.order)) (sym is.layout) ∙ here)
          ∙ sym (ap (λ (l : Layout). in_object l x.size y.colour off) is.layout
          ∙ ap (λ n. in_object (layout_numbers is.kept) n y.colour off) size
          ∙ ap (λ (z : Slab). in_object (layout_numbers is.kept) is.kept.layout.size z.colour off) is.is)

      -- the place lies in no other slab
      only : (x' : Cache) (y' : Slab) → IsIn x' m.caches → IsIn y' x'.slabs → in_this x' y' ≡ true → in_object_of place x' y' ≡ in_object_of place x y
      only x' y' i' j' there =
          let is = kept x y i j in
          let is' = kept x' y' i' j' in
          let first : y'.first ≡ y.first = same_first (slab_block x' y') (slab_block x y) (place / FRAME_BYTES) (slab_taken x' y' i' j') (slab_taken x y i j)
          (in_block-true place (slab_block x' y') there) (in_block-true place (slab_block x y) here) in
          let number : x'.number ≡ x.number = (one_slab r s t x.number y.first is.machine_frame x'.number y'.first is'.machine_frame is.kept is'.kept is.slab is'.slab first).number in
          let caches : x' ≡ x = one_key (λ c. c.number) 0 m.caches x' x h.caches_rise i' i number in
          let rises = h.slabs_rise x.number x (in_found (λ z. z.number) 0 x m.caches h.caches_rise i) in
          let slabs : y' ≡ y = one_key (λ z. z.first) 0 x.slabs y' y rises (subst (λ (c : Cache). IsIn y' c.slabs) caches j') j first in
          ap (λ (c : Cache). in_object_of place c y') caches ∙ ap (in_object_of place x) slabs

      any_object : list_any (in_cache place) m.caches ≡ in_one
      any_object = go in_one refl
        where
          of_this : (v : Bool) → in_one ≡ v → in_object_of place x y ≡ v
          of_this v is = ap (λ u. u && in_one) here ∙ is

          go : (v : Bool) → in_one ≡ v → list_any (in_cache place) m.caches ≡ v
          go true is = any_in (in_cache place) x m.caches i (any_in (in_object_of place x) y x.slabs j (of_this true is))
          go false is = any_none (in_cache place) m.caches (each_from (λ c. in_cache place c ≡ false) m.caches (λ x' i'.
              any_none (in_object_of place x') x'.slabs (each_from (λ z. in_object_of place x' z ≡ false) x'.slabs (λ y' j'.
              false_from_ne_true (in_object_of place x' y') (λ passes.
              let parts = and_parts (in_this x' y') (in_object (layout x') x'.size y'.colour (place - FRAME_BYTES * y'.first)) passes in
              false≢true (sym (only x' y' i' j' parts.0 ∙ of_this false is) ∙ passes))))))

      inside : in_slab m place ≡ true → is_some (m.bytes place) ≡ is_mapped s.top m place
      inside within = has_byte ∙ sym any_object ∙ alone (holds m (slot_of s.top place)) (in_slab m place) (list_any (in_cache place) m.caches) within
        where
          alone : (u v o : Bool) → v ≡ true → o ≡ ((u && not v) || o)
          alone true v o e = ap (λ q. not q || o) (sym e)
          alone false v o e = refl

    mapped : is_some (m.bytes place) ≡ is_mapped s.top m place
    mapped = go (in_slab m place) refl
      where
        go : (v : Bool) → in_slab m place ≡ v → is_some (m.bytes place) ≡ is_mapped s.top m place
        go false out = outside out
        go true within =
            let z = some_any (in_block place) slab_list within in
            let x = flat_map_in slab_blocks z.0 m.caches z.1 in
            let y = map_in (slab_block x.0) z.0 x.0.slabs x.2 in
            inside x.0 y.0 x.1 y.1 (ap (in_block place) y.2 ∙ z.2) within

  pub well_formed : IsWellFormed cache_limit s.top m
  unfolding taken_blocks
  well_formed = record {
    slots_rise = h.slots_rise;
    blocks_rise = h.blocks_rise;
    caches_rise = h.caches_rise;
    numbered = each_from (λ c. c.number < cache_limit) m.caches numbered;
    caches = each_from IsCache m.caches is_cache;
    placed = placed;
    apart = apart;
    mapped = mapped;
  }

pub shown_well_formed : ShownWellFormed
shown_well_formed k t m is here shown =
    let tenant : t < length k.buddy.tenants = omega (arith, here, is.agree.holdings) in
    let order : k.slabs.top ≡ k.order = sym is.together.agree.order ∙ is.agree.top in
    subst (λ n. IsWellFormed cache_limit n m) order
    (well_formed k.space k.buddy k.slabs t m (steady k.space k.buddy k.slabs t is.together tenant) is.together.slabs shown)
