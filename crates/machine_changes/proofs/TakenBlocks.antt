-- The taken blocks of a tenant's buddy system are the page blocks and the slabs' blocks of its machine.
use Rattle.std.proofs.Common.{◌≡◌, ℕ, Bool, true, false, cond, eqb, List, [], ◌∷◌, ◌++◌, Some, None, refl, sym, ap, ◌∙◌, subst, inl, inr, ⊎_elim}
use Rattle.std.specs.Prelude.{flat_map}
use Rattle.std.proofs.lemmas.Bool.{false≢true, eq-eqb, ne_eqb, cases_eq}
use Rattle.model_core.specs.Blocks.{Block, block}
use Rattle.model_core.specs.Machine.{Slab, Cache, Machine, order_in, layout, slab_block, slab_blocks, taken_blocks}
use Rattle.model_core.specs.Slabs.{cache_of, slab_of}
use Rattle.model_core.specs.Elements.{IsIn}
use Rattle.model_core.proofs.Lists.{find_in, in_map, map_in, flat_map_in, in_flat_map}
use Rattle.space_core.specs.Content as spaces
use Rattle.buddy_core.specs.Content as buddies
use Rattle.slab_tables.specs.declared.cache.Cache as own
use Rattle.slab_tables.specs.Content.{Content, layout_numbers}
use Rattle.machine_changes.specs.Shows.{machine_frame_of, has_slab, IsSlab, ShowsMachine}
use Rattle.machine_changes.specs.Steady.{IsSteady}
use Rattle.machine_changes.specs.Laws.{TakenMeets}
use Rattle.machine_changes.proofs.Lookups.{in_found}
use Rattle.machine_changes.proofs.SlabFacts.{has_it, one_slab, some_slab, slab_in, IsSlabKept, slab_of_machine}

-- The order that a lookup in a list of blocks returns for a frame

pub order_none : (bs : List Block) (f : ℕ) → ((z : Block) → IsIn z bs → z.first ≡ f → ⊥) → order_in bs f ≡ None
order_none [] f none = refl
order_none (z ∷ bs) f none =
    ap (λ v. cond v (Some z.order) (order_in bs f)) (ne_eqb z.first f (none z (inl refl)))
    ∙ order_none bs f (λ y i. none y (inr i))

pub order_is : (bs : List Block) (f k : ℕ) → IsIn (block f k) bs → ((z : Block) → IsIn z bs → z.first ≡ f → z.order ≡ k) → order_in bs f ≡ Some k
order_is [] f k i one = elim i [ ]
order_is (z ∷ bs) f k i one = ⊎_elim here (λ differ. past differ i (λ j. order_is bs f k j (λ y l. one y (inr l)))) (cases_eq z.first f)
  where
    here : z.first ≡ f → order_in (z ∷ bs) f ≡ Some k
    here same =
        ap (λ v. cond v (Some z.order) (order_in bs f)) (eq-eqb z.first f same) ∙ ap (λ (j : ℕ). Some j) (one z (inl refl) same)

    past : (z.first ≡ f → ⊥) → IsIn (block f k) (z ∷ bs) → (IsIn (block f k) bs → order_in bs f ≡ Some k) → order_in (z ∷ bs) f ≡ Some k
    past differ (inl same) more = absurd (differ (ap (λ y. y.first) same))
    past differ (inr j) more = ap (λ v. cond v (Some z.order) (order_in bs f)) (ne_eqb z.first f differ) ∙ more j

pub order_past : (xs ys : List Block) (f : ℕ) → order_in xs f ≡ None → order_in (xs ++ ys) f ≡ order_in ys f
order_past [] ys f none = refl
order_past (x ∷ xs) ys f none = go (eqb x.first f) none (order_past xs ys f)
  where
    go : (v : Bool) → cond v (Some x.order) (order_in xs f) ≡ None → (order_in xs f ≡ None → order_in (xs ++ ys) f ≡ order_in ys f)
        → cond v (Some x.order) (order_in (xs ++ ys) f) ≡ order_in ys f
    go true none more = absurd (cc)
    go false none more = more none

pub order_before : (xs ys : List Block) (f : ℕ) → order_in ys f ≡ None → order_in (xs ++ ys) f ≡ order_in xs f
order_before [] ys f none = none
order_before (x ∷ xs) ys f none = ap (λ o. cond (eqb x.first f) (Some x.order) o) (order_before xs ys f none)

-- Slabs and their blocks

module _ (r : spaces.Content) (b : buddies.Content) (s : Content) (t : ℕ) (m : Machine) (st : IsSteady r b s t) (h : ShowsMachine r b s t m) where
  -- z is the block of a slab of tenant t
  pub record IsOfSlab (z : Block) : Type 0 where
    pub number : ℕ
    pub machine_frame : ℕ
    pub cache : own.Cache
    pub slab : IsSlab r s t number z.first machine_frame cache
    pub order : z.order ≡ (layout_numbers cache).order

  -- the tables have each slab of machine m
  pub slab_kept : (x : Cache) (y : Slab) → IsIn x m.caches → IsIn y x.slabs → IsSlabKept r b s t m h x.number y.first x y
  slab_kept x y i j =
      let ex : cache_of m x.number ≡ Some x = in_found (λ z. z.number) 0 x m.caches h.caches_rise i in
      let ey : slab_of x y.first ≡ Some y = in_found (λ z. z.first) 0 y x.slabs (h.slabs_rise x.number x ex) j in
      slab_of_machine r b s t m h x.number y.first x y ex ey

  of_slab : (x : Cache) (y : Slab) → IsIn x m.caches → IsIn y x.slabs → IsOfSlab (slab_block x y)
  of_slab x y i j =
      let is = slab_kept x y i j in
      record { number = x.number; machine_frame = is.machine_frame; cache = is.kept; slab = is.slab; order = ap (λ l. l.order) is.layout }

  -- every block in the list `bs` is the block of a slab of tenant t
  module _ (bs : List Block) (tells : (z : Block) → IsIn z bs → IsOfSlab z) where
    -- no page block of m begins at the first frame of a slab
    no_page : (f : ℕ) → has_slab s (machine_frame_of s.top r.slots t f) ≡ true → order_in m.blocks f ≡ None
    no_page f has = h.blocks f ∙ ap (λ v. cond v None (buddies.taken_of (buddies.holding_of t b) f)) has

    -- if the block of the slab at f is in `bs`, a lookup of f in the page blocks and `bs` returns the taken block's order
    pub order_of_slab : (c f n : ℕ) (cache : own.Cache) → IsSlab r s t c f n cache → IsIn (block f (layout_numbers cache).order) bs
        → order_in (m.blocks ++ bs) f ≡ buddies.taken_of (buddies.holding_of t b) f
    order_of_slab c f n cache q i =
        order_past m.blocks bs f (no_page f (has_it r s t c f n cache q))
        ∙ order_is bs f (layout_numbers cache).order i (λ z j same.
        let is = tells z j in
        is.order ∙ ap (λ x. (layout_numbers x).order) (one_slab r s t c f n is.number z.first is.machine_frame cache is.cache q is.slab same).same)
        ∙ sym (st.stands c f n cache q).taken

    -- if a slab begins at f, but no block of `bs` does, a lookup of f in the page blocks and `bs` returns None
    pub order_of_none : (f : ℕ) → has_slab s (machine_frame_of s.top r.slots t f) ≡ true → ((z : Block) → IsIn z bs → z.first ≡ f → ⊥)
        → order_in (m.blocks ++ bs) f ≡ None
    order_of_none f has none = order_past m.blocks bs f (no_page f has) ∙ order_none bs f none

    -- if no slab begins at f, a lookup of f in the page blocks and `bs` returns what `taken_of` returns for f
    pub order_of_page : (f : ℕ) → has_slab s (machine_frame_of s.top r.slots t f) ≡ false
        → order_in (m.blocks ++ bs) f ≡ buddies.taken_of (buddies.holding_of t b) f
    order_of_page f none =
        order_before m.blocks bs f (order_none bs f (λ z i same.
        let is = tells z i in
        false≢true (sym none ∙ ap (λ g. has_slab s (machine_frame_of s.top r.slots t g)) (sym same) ∙ has_it r s t is.number z.first is.machine_frame is.cache is.slab)))
        ∙ h.blocks f ∙ ap (λ v. cond v None (buddies.taken_of (buddies.holding_of t b) f)) none

  abbrev slab_list : List Block
  slab_list = flat_map slab_blocks m.caches

  listed_tells : (z : Block) → IsIn z slab_list → IsOfSlab z
  listed_tells z i =
      let x = flat_map_in slab_blocks z m.caches i in
      let y = map_in (slab_block x.0) z x.0.slabs x.2 in
      subst IsOfSlab y.2 (of_slab x.0 y.0 x.1 y.1)

  slab_listed : (c f n : ℕ) (cache : own.Cache) → IsSlab r s t c f n cache → IsIn (block f (layout_numbers cache).order) slab_list
  slab_listed c f n cache q =
      let is = slab_in r b s t m h c f n cache q in
      let x = is.there.shown in
      let x_in = (find_in _ x m.caches is.there.cached).0 in
      let y_in = (find_in _ _ x.slabs is.slab).0 in
      subst (λ l. IsIn (block f l.order) slab_list) is.there.layout
      (in_flat_map slab_blocks (block f (layout x).order) x m.caches x_in (in_map (slab_block x) _ x.slabs y_in))

  pub taken_is : (f : ℕ) → order_in (m.blocks ++ slab_list) f ≡ buddies.taken_of (buddies.holding_of t b) f
  taken_is f = go (has_slab s (machine_frame_of s.top r.slots t f)) refl
    where
      go : (v : Bool) → has_slab s (machine_frame_of s.top r.slots t f) ≡ v → order_in (m.blocks ++ slab_list) f ≡ buddies.taken_of (buddies.holding_of t b) f
      go true has =
          let is = some_slab r b s t st f has in
          order_of_slab slab_list listed_tells is.number f is.machine_frame is.cache is.slab (slab_listed is.number f is.machine_frame is.cache is.slab)
      go false none = order_of_page slab_list listed_tells f none

pub taken_meets : TakenMeets
unfolding taken_blocks
taken_meets r b s t m st h f = taken_is r b s t m st h f
