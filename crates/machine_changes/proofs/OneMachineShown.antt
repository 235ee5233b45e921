-- The memory, the buddy systems and the tables of caches show at most one machine for each tenant.
use Rattle.std.proofs.Common.{◌≡◌, ◌≢◌, ℕ, zero, suc, ◌-◌, ◌*◌, ◌/◌, ◌<◌, Bool, true, false, List, map, Some, None, refl, sym, ap, ◌∙◌, subst, ◌⊎◌, inl, inr, ⊎_elim, arith, eqb}
use Rattle.std.specs.Prelude.{Option, option_map, is_some, ◌==◌}
use Rattle.std.proofs.lemmas.Bool.{false≢true, eqb-true, and_parts, cases_eq, false_from_ne_true}
use Rattle.model_core.specs.Blocks.{Block, block}
use Rattle.model_core.specs.Machine.{Slab, Cache, Machine, slot_of, order_in}
use Rattle.model_core.specs.Slabs.{cache_of}
use Rattle.model_core.specs.WellFormed.{RisesFrom}
use Rattle.model_core.specs.declared.limits.TheConstants.{MAX_CACHES}
use Rattle.model_core.specs.Elements.{IsIn}
use Rattle.model_core.proofs.BlocksApart.{in_block-true}
use Rattle.model_core.proofs.Lists.{find_in}
use Rattle.model_core.proofs.RisingLists.{same_keyed, same_rising}
use Rattle.model_core.proofs.TakenSteps.{same_block}
use Rattle.klist_core.specs.Places.{place_at}
use Rattle.space_core.specs.Content as spaces
use Rattle.buddy_core.specs.Content as buddies
use Rattle.slab_tables.specs.declared.cache.Cache as own
use Rattle.slab_tables.specs.Content.{Content, cache_at, index_of_cache, layout_numbers}
use Rattle.machine_changes.specs.Shows.{machine_frame_of, is_of_cache, without_slabs, is_inside, IsSlab, ShowsMachine}
use Rattle.machine_changes.proofs.Lookups.{some_none, some_same, at, found_key, in_found}
use Rattle.machine_changes.proofs.SlabFacts.{one_slab, cache_kept}
use Rattle.machine_changes.proofs.PageReserved.{order_found}
use Rattle.machine_changes.specs.Pages.{OneMachine}

-- two lists with rising keys are equal if every lookup by key returns the same from both
same_found : {X : Type 0} (key : X → ℕ) (xs ys : List X) → RisesFrom 0 (map key xs) → RisesFrom 0 (map key ys) → ((k : ℕ) → at key k xs ≡ at key k ys) → xs ≡ ys
same_found {X} key xs ys rises rises' same =
    same_keyed key 0 xs ys rises rises' (carried xs ys rises same) (carried ys xs rises' (λ k. sym (same k)))
  where
    carried : (ws zs : List X) → RisesFrom 0 (map key ws) → ((k : ℕ) → at key k ws ≡ at key k zs) → (x : X) → IsIn x ws → IsIn x zs
    carried ws zs r e x i = (find_in (λ y. eqb (key y) (key x)) x zs (sym (e (key x)) ∙ in_found key 0 x ws r i)).0

-- a lookup of the first frame f returns the block at f with the order that `order_in` returns, or None if no block begins at f
block_found : (bs : List Block) (f : ℕ) → at (λ z. z.first) f bs ≡ option_map (block f) (order_in bs f)
block_found bs f = go (at (λ z. z.first) f bs) refl ∙ ap (option_map (block f)) (sym (order_found bs f))
  where
    go : (o : Option Block) → at (λ z. z.first) f bs ≡ o → at (λ z. z.first) f bs ≡ option_map (block f) (option_map (λ z. z.order) (at (λ z. z.first) f bs))
    go None e = e ∙ ap (λ o. option_map (block f) (option_map (λ z. z.order) o)) (sym e)
    go (Some z) e =
        e ∙ (ap (λ x. Some x) (same_block z f z.order (found_key (λ x. x.first) f bs z e) refl)
        ∙ ap (λ o. option_map (block f) (option_map (λ x. x.order) o)) (sym e))

-- Places inside slabs

module _ (r : spaces.Content) (s : Content) (t place : ℕ) where
  -- the place lies in a slab
  record IsInSlab : Type 0 where
    number : ℕ
    first : ℕ
    machine_frame : ℕ
    cache : own.Cache
    slab : IsSlab r s t number first machine_frame cache
    inside : is_inside place first cache ≡ true

  -- the place lies in no slab that begins at frame f
  abbrev IsApart : ℕ → Type 0
  IsApart f = (c n : ℕ) (cache : own.Cache) → IsSlab r s t c f n cache → is_inside place f cache ≡ false

  -- for an entry of a slab list, the number of the tenant's cache that has this list; 0 for None
  number_in : Option (ℕ × ℕ) → ℕ
  number_in None = 0
  number_in (Some p) = p.0 / 3 - MAX_CACHES * t

  number_is : (c f : ℕ) (o : Option (ℕ × ℕ)) → is_of_cache (index_of_cache t c) f o ≡ true → c ≡ number_in o
  unfolding number_in
  number_is c f None e = absurd (false≢true e)
  number_is c f (Some p) e =
      let index : p.0 / 3 ≡ index_of_cache t c = eqb-true (p.0 / 3) (index_of_cache t c) (and_parts (p.0 / 3 == index_of_cache t c) (p.1 == f) e).0 in
      omega arith

  module _ (f n : ℕ) (under : machine_frame_of s.top r.slots t f ≡ Some n) where
    abbrev c : ℕ
    c = number_in (place_at s.lists.places n)

    -- a slab that begins at frame f belongs to cache c, and its machine frame is n
    only : (d x : ℕ) (cache : own.Cache) → IsSlab r s t d f x cache → (d ≡ c) × IsSlab r s t c f n cache
    only d x cache q =
        let machine_frame : x ≡ n = some_same (sym q.under ∙ under) in
        let here : IsSlab r s t d f n cache = subst (λ z. IsSlab r s t d f z cache) machine_frame q in
        let number : d ≡ c = number_is d f (place_at s.lists.places n) here.listed in
        (number, subst (λ z. IsSlab r s t z f n cache) number here)

    with_slab : (cache : own.Cache) → IsSlab r s t c f n cache → (v : Bool) → is_inside place f cache ≡ v → IsInSlab ⊎ IsApart f
    with_slab cache q true inside = inl (record { number = c; first = f; machine_frame = n; cache = cache; slab = q; inside = inside })
    with_slab cache q false outside =
        inr (λ d x other p.
        let one = one_slab r s t c f n c f n cache other q (only d x other p).1 refl in
        ap (is_inside place f) one.same ∙ outside)

    with_cache : (cache : own.Cache) → cache_at s t c ≡ Some cache → (v : Bool) → is_of_cache (index_of_cache t c) f (place_at s.lists.places n) ≡ v
        → IsInSlab ⊎ IsApart f
    with_cache cache cached true listed =
        with_slab cache (record { cached = cached; under = under; listed = listed }) (is_inside place f cache) refl
    with_cache cache cached false unlisted = inr (λ d x other p. absurd (false≢true (sym unlisted ∙ (only d x other p).1.listed)))

    with_machine_frame : (o : Option own.Cache) → cache_at s t c ≡ o → IsInSlab ⊎ IsApart f
    with_machine_frame None none = inr (λ d x other p. absurd (some_none (sym (only d x other p).1.cached ∙ none)))
    with_machine_frame (Some cache) cached = with_cache cache cached (is_of_cache (index_of_cache t c) f (place_at s.lists.places n)) refl

  at_frame : (f : ℕ) → IsInSlab ⊎ IsApart f
  at_frame f = go (machine_frame_of s.top r.slots t f) refl
    where
      go : (o : Option ℕ) → machine_frame_of s.top r.slots t f ≡ o → IsInSlab ⊎ IsApart f
      go None none = inr (λ d x other p. absurd (some_none (sym p.under ∙ none)))
      go (Some n) under = with_machine_frame f n under (cache_at s t (number_in (place_at s.lists.places n))) refl

  below : (k : ℕ) → IsInSlab ⊎ ((f : ℕ) → f < k → IsApart f)
  below zero = inr (λ f less. absurd (omega arith))
  below (suc k) = join (below k) (at_frame k)
    where
      join : IsInSlab ⊎ ((f : ℕ) → f < k → IsApart f) → IsInSlab ⊎ IsApart k → IsInSlab ⊎ ((f : ℕ) → f < suc k → IsApart f)
      join (inl is) _ = inl is
      join (inr none) (inl is) = inl is
      join (inr none) (inr here) =
          inr (λ f less. ⊎_elim (λ (same : f ≡ k). subst IsApart (sym same) here) (λ (differ : f ≢ k). none f (omega (arith, differ))) (cases_eq f k))

  -- the place lies in a slab or in none
  in_slab_or_none : IsInSlab ⊎ ((c f n : ℕ) (cache : own.Cache) → IsSlab r s t c f n cache → is_inside place f cache ≡ false)
  in_slab_or_none =
      ⊎_elim (λ is. inl is)
      (λ none.
      inr (λ c f n cache q.
      false_from_ne_true (is_inside place f cache) (λ inside.
      let low = (in_block-true place (block f (layout_numbers cache).order) inside).0 in
      false≢true (sym (none f (omega arith) c n cache q) ∙ inside))))
      (below (suc (place / 4096)))

-- Two machines that the parts show for the same tenant

cache_parts : (x y : Cache) → without_slabs x ≡ without_slabs y → x.slabs ≡ y.slabs → x ≡ y
cache_parts x y same slabs = ap {A = Cache} (λ z. record z { slabs = x.slabs }) same ∙ ap {A = List Slab} (λ ss. record y { slabs = ss }) slabs

module _ (r : spaces.Content) (b : buddies.Content) (s : Content) (t : ℕ) (m n : Machine) (h : ShowsMachine r b s t m) (h' : ShowsMachine r b s t n) where
  cache_same : (c : ℕ) → cache_of m c ≡ cache_of n c
  cache_same c = go (cache_of m c) (cache_of n c) refl refl
    where
      bare_same : option_map without_slabs (cache_of m c) ≡ option_map without_slabs (cache_of n c)
      bare_same = h.caches c ∙ sym (h'.caches c)

      slabs_same : (x y : Cache) → cache_of m c ≡ Some x → cache_of n c ≡ Some y → x.slabs ≡ y.slabs
      slabs_same x y ex ey =
          let there = cache_kept r b s t m h c x ex in
          same_found (λ z. z.first) x.slabs y.slabs (h.slabs_rise c x ex) (h'.slabs_rise c y ey)
          (λ f. h.slabs c f x there.kept ex there.cached ∙ sym (h'.slabs c f y there.kept ey there.cached))

      go : (o o' : Option Cache) → cache_of m c ≡ o → cache_of n c ≡ o' → cache_of m c ≡ cache_of n c
      go None None e e' = e ∙ sym e'
      go None (Some y) e e' = absurd (some_none (sym (ap (option_map without_slabs) e') ∙ (sym bare_same ∙ ap (option_map without_slabs) e)))
      go (Some x) None e e' = absurd (some_none (sym (ap (option_map without_slabs) e) ∙ (bare_same ∙ ap (option_map without_slabs) e')))
      go (Some x) (Some y) e e' =
          let bare_is : without_slabs x ≡ without_slabs y = some_same (sym (ap (option_map without_slabs) e) ∙ (bare_same ∙ ap (option_map without_slabs) e')) in
          e ∙ (ap (λ z. Some z) (cache_parts x y bare_is (slabs_same x y e e')) ∙ sym e')

  mapped_same : (place : ℕ) → is_some (m.bytes place) ≡ is_some (n.bytes place)
  mapped_same place =
      ⊎_elim
      (λ is. h.in_slab place is.number is.first is.machine_frame is.cache is.slab is.inside ∙ sym (h'.in_slab place is.number is.first is.machine_frame is.cache is.slab is.inside))
      (λ out. h.mapped place out ∙ (h.slots (slot_of s.top place) ∙ (sym (h'.slots (slot_of s.top place)) ∙ sym (h'.mapped place out))))
      (in_slab_or_none r s t place)

  byte_same : (place : ℕ) → m.bytes place ≡ n.bytes place
  byte_same place = go (m.bytes place) (n.bytes place) refl refl
    where
      go : (o o' : Option ℕ) → m.bytes place ≡ o → n.bytes place ≡ o' → m.bytes place ≡ n.bytes place
      go None None e e' = e ∙ sym e'
      go None (Some y) e e' = absurd (false≢true (sym (ap is_some e) ∙ (mapped_same place ∙ ap is_some e')))
      go (Some x) None e e' = absurd (false≢true (sym (ap is_some e') ∙ (sym (mapped_same place) ∙ ap is_some e)))
      go (Some x) (Some y) e e' = e ∙ (sym (h.bytes place x e) ∙ (h'.bytes place y e' ∙ sym e'))

  one : m ≡ n
  one =
      let slots = same_rising 0 m.slots n.slots h.slots_rise h'.slots_rise (λ u. h.slots u ∙ sym (h'.slots u)) in
      let blocks = same_found (λ z. z.first) m.blocks n.blocks h.blocks_rise h'.blocks_rise
      (λ f. block_found m.blocks f ∙ (ap (option_map (block f)) (h.blocks f ∙ sym (h'.blocks f)) ∙ sym (block_found n.blocks f))) in
      let caches = same_found (λ z. z.number) m.caches n.caches h.caches_rise h'.caches_rise cache_same in
      λ i. record { slots = slots i; blocks = blocks i; caches = caches i; bytes = λ place. byte_same place i }

pub one_machine : OneMachine
one_machine = one
