-- After slabs are freed in the parts, the parts show the old machine with these slabs freed.
use Rattle.std.proofs.Common.{◌≡◌, ℕ, ◌+◌, ◌-◌, ◌*◌, ◌/◌, ◌^◌, Bool, true, false, not, cond, map, Some, None, refl, sym, ap, ◌∙◌, subst}
use Rattle.std.specs.Prelude.{Option, option_map, is_some, filter, flat_map}
use Rattle.std.specs.List.{list_any}
use Rattle.std.proofs.lemmas.Bool.{false≢true, false_from_ne_true}
use Rattle.model_core.specs.Blocks.{block}
use Rattle.model_core.specs.Layouts.{in_object}
use Rattle.model_core.specs.WellFormed.{RisesFrom}
use Rattle.model_core.specs.Machine.{Cache, Machine, holds, slot_of, in_block, order_in, slab_block}
use Rattle.model_core.specs.Slabs.{cache_of, slab_of}
use Rattle.model_core.proofs.Lists.{find_in, filter_in, in_filter, any_map, any_flat_map, some_any, any_in, filter_rises}
use Rattle.klist_core.specs.Places.{place_at}
use Rattle.space_core.specs.Content as spaces
use Rattle.space_core.specs.Windows.{byte_at}
use Rattle.buddy_core.specs.Content as buddies
use Rattle.slab_tables.specs.declared.cache.Cache as own
use Rattle.slab_tables.specs.Content.{Content, kept_at, cache_at, index_of_cache, layout_numbers}
use Rattle.machine_changes.specs.Shows.{frame_under, machine_frame_of, byte_or_zero, live_of, is_of_cache, slab_at, has_slab, bare, without_slabs, is_inside, IsSlab, ShowsMachine}
use Rattle.machine_changes.specs.Steady.{IsSteady}
use Rattle.machine_changes.specs.Changes.{IsReturned, kept_slabs, gone_blocks, returned}
use Rattle.machine_changes.specs.Laws.{ReturnedShows}
use Rattle.machine_changes.proofs.Lookups.{in_found, found_mapped, keys_mapped, found_kept, mapped_from, through}
use Rattle.machine_changes.proofs.SlabFacts.{one_first, no_slab_under, same_slab, live_stays, record_inside, slot_held, slab_in, slab_of_machine}

module _ (r r' : spaces.Content) (b b' : buddies.Content) (s s' : Content) (t : ℕ) (gone : ℕ → Bool)
    (k : IsReturned r r' b b' s s' t gone) (st : IsSteady r b s t) where
  pub machine_frame_same : (f : ℕ) → machine_frame_of s'.top r'.slots t f ≡ machine_frame_of s.top r.slots t f
  machine_frame_same f = ap (λ top. machine_frame_of top r'.slots t f) k.top ∙ ap (frame_under s.top f) (k.slots (f / 2 ^ s.top))

  has_now_under : (f : ℕ) (o : Option ℕ) → machine_frame_of s.top r.slots t f ≡ o → has_slab s' o ≡ cond (gone f) false (has_slab s o)
  has_now_under f None under = none (gone f)
    where
      none : (v : Bool) → false ≡ cond v false false
      none true = refl
      none false = refl
  has_now_under f (Some n) under = ap is_some (k.lists f n under) ∙ through is_some (gone f) None (place_at s.lists.places n)

  pub has_now : (f : ℕ) → has_slab s' (machine_frame_of s'.top r'.slots t f) ≡ cond (gone f) false (has_slab s (machine_frame_of s.top r.slots t f))
  has_now f = ap (has_slab s') (machine_frame_same f) ∙ has_now_under f (machine_frame_of s.top r.slots t f) refl

  -- after the change, a slab of the cache begins at frame f if and only if one did before and `gone` does not select it
  pub listed_now : (d f n : ℕ) → machine_frame_of s.top r.slots t f ≡ Some n
      → is_of_cache d f (place_at s'.lists.places n) ≡ cond (gone f) false (is_of_cache d f (place_at s.lists.places n))
  listed_now d f n under = ap (is_of_cache d f) (k.lists f n under) ∙ through (is_of_cache d f) (gone f) None (place_at s.lists.places n)

  true_unless : (v w : Bool) → cond v false w ≡ true → (v ≡ false) × (w ≡ true)
  true_unless true w e = absurd (false≢true e)
  true_unless false w e = (refl, e)

  -- each slab after the change existed before, and `gone` does not select it
  pub slab_was : (c f n : ℕ) (cache : own.Cache) → IsSlab r' s' t c f n cache → IsSlab r s t c f n cache × (gone f ≡ false)
  slab_was c f n cache p =
      let under : machine_frame_of s.top r.slots t f ≡ Some n = sym (machine_frame_same f) ∙ p.under in
      let both = true_unless (gone f) (is_of_cache (index_of_cache t c) f (place_at s.lists.places n))
      (sym (listed_now (index_of_cache t c) f n under) ∙ p.listed) in
      (record { cached = sym (k.caches c) ∙ p.cached; under = under; listed = both.1 }, both.0)

  pub slab_stays : (c f n : ℕ) (cache : own.Cache) → IsSlab r s t c f n cache → gone f ≡ false → IsSlab r' s' t c f n cache
  slab_stays c f n cache q stays = record {
    cached = k.caches c ∙ q.cached;
    under = machine_frame_same f ∙ q.under;
    listed = listed_now (index_of_cache t c) f n q.under
        ∙ ap (λ v. cond v false (is_of_cache (index_of_cache t c) f (place_at s.lists.places n))) stays ∙ q.listed;
  }

  -- a freed slab shares no place with a slab that remains
  pub not_gone : (place c f n : ℕ) (cache : own.Cache) → IsSlab r s t c f n cache → gone f ≡ false → is_inside place f cache ≡ true
      → (c' f' n' : ℕ) (cache' : own.Cache) → IsSlab r s t c' f' n' cache' → gone f' ≡ true → is_inside place f' cache' ≡ false
  not_gone place c f n cache q stays inside c' f' n' cache' q' goes =
      false_from_ne_true (is_inside place f' cache') (λ inside'.
      false≢true (sym stays ∙ ap gone (sym (one_first r b s t st place c f n c' f' n' cache cache' q q' inside inside')) ∙ goes))

  live_now : (c f n : ℕ) (cache : own.Cache) → IsSlab r s t c f n cache → gone f ≡ false
      → live_of r' t cache (kept_at s.kept n) f ≡ live_of r t cache (kept_at s.kept n) f
  live_now c f n cache q stays =
      live_stays r b s t st r' (kept_at s.kept n) c f n cache q
      (λ small j less. ap byte_or_zero (k.bytes (4096 * f + 4064 + j)
      (not_gone (4096 * f + 4064 + j) c f n cache q stays (record_inside r b s t st c f n j cache q less))))

  pub slab_now : (c f : ℕ) (cache : own.Cache) → cache_at s t c ≡ Some cache
      → slab_at r' s' t c cache f ≡ cond (gone f) None (slab_at r s t c cache f)
  slab_now c f cache cached = go (gone f) refl
    where
      go : (v : Bool) → gone f ≡ v → slab_at r' s' t c cache f ≡ cond v None (slab_at r s t c cache f)
      go true goes =
          no_slab_under r' s' t (index_of_cache t c) cache f (machine_frame_of s'.top r'.slots t f)
          (has_now f ∙ ap (λ v. cond v false (has_slab s (machine_frame_of s.top r.slots t f))) goes)
      go false stays =
          same_slab r r' s s' t c f cache (machine_frame_same f)
          (λ n under. listed_now (index_of_cache t c) f n under ∙ ap (λ v. cond v false (is_of_cache (index_of_cache t c) f (place_at s.lists.places n))) stays)
          (λ n under listed. (k.kept f n under, live_now c f n cache (record { cached = cached; under = under; listed = listed }) stays))

  module _ (m : Machine) (h : ShowsMachine r b s t m) where
    -- the place lies in a freed slab
    pub record IsGone (place : ℕ) : Type 0 where
      pub number : ℕ
      pub first : ℕ
      pub machine_frame : ℕ
      pub cache : own.Cache
      pub slab : IsSlab r s t number first machine_frame cache
      pub goes : gone first ≡ true
      pub inside : is_inside place first cache ≡ true

    gone_tells : (place : ℕ) → list_any (in_block place) (flat_map (gone_blocks gone) m.caches) ≡ true → IsGone place
    gone_tells place e =
        let some_cache = some_any (λ x. list_any (in_block place) (gone_blocks gone x)) m.caches
        (sym (any_flat_map (in_block place) (gone_blocks gone) m.caches) ∙ e) in
        let x = some_cache.0 in
        let some_slab = some_any (λ y. in_block place (slab_block x y)) (filter (λ y. gone y.first) x.slabs)
        (sym (any_map (in_block place) (slab_block x) (filter (λ y. gone y.first) x.slabs)) ∙ some_cache.2) in
        let y = some_slab.0 in
        let kept = filter_in (λ z. gone z.first) y x.slabs some_slab.1 in
        let ex : cache_of m x.number ≡ Some x = in_found (λ z. z.number) 0 x m.caches h.caches_rise some_cache.1 in
        let ey : slab_of x y.first ≡ Some y = in_found (λ z. z.first) 0 y x.slabs (h.slabs_rise x.number x ex) kept.0 in
        let is = slab_of_machine r b s t m h x.number y.first x y ex ey in
        record {
          number = x.number;
          first = y.first;
          machine_frame = is.machine_frame;
          cache = is.kept;
          slab = is.slab;
          goes = kept.1;
          inside = ap (λ l. in_block place (block y.first l.order)) (sym is.layout) ∙ some_slab.2;
        }

    gone_is : (place c f n : ℕ) (cache : own.Cache) → IsSlab r s t c f n cache → gone f ≡ true → is_inside place f cache ≡ true
        → list_any (in_block place) (flat_map (gone_blocks gone) m.caches) ≡ true
    gone_is place c f n cache q goes inside =
        let is = slab_in r b s t m h c f n cache q in
        let x = is.there.shown in
        let ix = (find_in _ x m.caches is.there.cached).0 in
        let y_in = (find_in _ _ x.slabs is.slab).0 in
        let in_y = ap (λ l. in_block place (block f l.order)) is.there.layout ∙ inside in
        any_flat_map (in_block place) (gone_blocks gone) m.caches
        ∙ any_in (λ z. list_any (in_block place) (gone_blocks gone z)) x m.caches ix
        (any_map (in_block place) (slab_block x) (filter (λ y. gone y.first) x.slabs)
        ∙ any_in (λ y. in_block place (slab_block x y)) _ (filter (λ y. gone y.first) x.slabs)
        (in_filter (λ y. gone y.first) _ x.slabs y_in goes) in_y)

    cache_now : (c : ℕ) → cache_of (returned gone m) c ≡ option_map (kept_slabs gone) (cache_of m c)
    cache_now c = found_mapped (λ z. z.number) (kept_slabs gone) c m.caches (λ x. refl)

    bare_stays : (o : Option Cache) → option_map without_slabs (option_map (kept_slabs gone) o) ≡ option_map without_slabs o
    bare_stays None = refl
    bare_stays (Some x) = refl

    was_cache : (c : ℕ) (z : Cache) → cache_of (returned gone m) c ≡ Some z → (x : Cache) × (cache_of m c ≡ Some x) × (kept_slabs gone x ≡ z)
    was_cache c z e = mapped_from (kept_slabs gone) (cache_of m c) z (sym (cache_now c) ∙ e)

    -- the page blocks are unchanged
    blocks_now : (f : ℕ) → order_in m.blocks f
        ≡ cond (has_slab s' (machine_frame_of s'.top r'.slots t f)) None (buddies.taken_of (buddies.holding_of t b') f)
    blocks_now f =
        h.blocks f ∙ same (gone f) refl
        ∙ ap (λ has. cond has None (cond (gone f) None (buddies.taken_of (buddies.holding_of t b) f))) (sym (has_now f))
        ∙ ap (cond (has_slab s' (machine_frame_of s'.top r'.slots t f)) None) (sym (k.taken f))
      where
        same : (v : Bool) → gone f ≡ v
            → cond (has_slab s (machine_frame_of s.top r.slots t f)) None (buddies.taken_of (buddies.holding_of t b) f)
            ≡ cond (cond v false (has_slab s (machine_frame_of s.top r.slots t f))) None (cond v None (buddies.taken_of (buddies.holding_of t b) f))
        same true goes = ap (λ has. cond has None (buddies.taken_of (buddies.holding_of t b) f)) (k.begun f goes)
        same false stays = refl

    mapped_now : (place : ℕ) → ((c f n : ℕ) (cache : own.Cache) → IsSlab r' s' t c f n cache → is_inside place f cache ≡ false)
        → is_some ((returned gone m).bytes place) ≡ holds m (slot_of s'.top place)
    mapped_now place out = go (list_any (in_block place) (flat_map (gone_blocks gone) m.caches)) refl ∙ ap (λ top. holds m (slot_of top place)) (sym k.top)
      where
        outside : list_any (in_block place) (flat_map (gone_blocks gone) m.caches) ≡ false
            → (c f n : ℕ) (cache : own.Cache) → IsSlab r s t c f n cache → is_inside place f cache ≡ false
        outside none c f n cache q = false_from_ne_true (is_inside place f cache) (λ inside. by (gone f) refl inside)
          where
            by : (v : Bool) → gone f ≡ v → is_inside place f cache ≡ true → ⊥
            by true goes inside = false≢true (sym none ∙ gone_is place c f n cache q goes inside)
            by false stays inside = false≢true (sym (out c f n cache (slab_stays c f n cache q stays)) ∙ inside)

        go : (any : Bool) → list_any (in_block place) (flat_map (gone_blocks gone) m.caches) ≡ any
            → is_some (cond any (Some 0) (m.bytes place)) ≡ holds m (slot_of s.top place)
        go true some =
            let is = gone_tells place some in
            sym (h.slots (slot_of s.top place) ∙ slot_held r b s t st place is.number is.first is.machine_frame is.cache is.slab is.inside)
        go false none = h.mapped place (outside none)

    in_slab_now : (place c f n : ℕ) (cache : own.Cache) → IsSlab r' s' t c f n cache → is_inside place f cache ≡ true
        → is_some ((returned gone m).bytes place) ≡ in_object (layout_numbers cache) cache.layout.size (kept_at s'.kept n).colour (place - 4096 * f)
    in_slab_now place c f n cache p inside =
        let was = slab_was c f n cache p in
        let none : list_any (in_block place) (flat_map (gone_blocks gone) m.caches) ≡ false =
        false_from_ne_true (list_any (in_block place) (flat_map (gone_blocks gone) m.caches)) (λ e.
        let is = gone_tells place e in
        false≢true (sym (not_gone place c f n cache was.0 was.1 inside is.number is.first is.machine_frame is.cache is.slab is.goes) ∙ is.inside)) in
        ap (λ any. is_some (cond any (Some 0) (m.bytes place))) none
        ∙ h.in_slab place c f n cache was.0 inside
        ∙ ap (λ kept. in_object (layout_numbers cache) cache.layout.size kept.colour (place - 4096 * f)) (sym (k.kept f n was.0.under))

    bytes_now : (place byte : ℕ) → (returned gone m).bytes place ≡ Some byte → byte_at r' t place ≡ Some byte
    bytes_now place byte e = go (list_any (in_block place) (flat_map (gone_blocks gone) m.caches)) refl e
      where
        go : (any : Bool) → list_any (in_block place) (flat_map (gone_blocks gone) m.caches) ≡ any
            → cond any (Some 0) (m.bytes place) ≡ Some byte → byte_at r' t place ≡ Some byte
        go true some e =
            let is = gone_tells place some in
            k.zeroed place is.number is.first is.machine_frame is.cache is.slab is.goes is.inside ∙ e
        go false none e =
            k.bytes place (λ c f n cache q goes. false_from_ne_true (is_inside place f cache) (λ inside. false≢true (sym none ∙ gone_is place c f n cache q goes inside)))
            ∙ h.bytes place byte e

    pub returned_machine : ShowsMachine r' b' s' t (returned gone m)
    returned_machine = record {
      slots_rise = h.slots_rise;
      slots = λ u. h.slots u ∙ ap is_some (sym (k.slots u));
      blocks_rise = h.blocks_rise;
      blocks = blocks_now;
      caches_rise = subst (λ ks. RisesFrom 0 ks) (sym (keys_mapped (λ z. z.number) (kept_slabs gone) m.caches (λ x. refl))) h.caches_rise;
      caches = λ c. ap (option_map without_slabs) (cache_now c) ∙ bare_stays (cache_of m c) ∙ h.caches c ∙ ap (option_map (bare c)) (sym (k.caches c));
      slabs_rise = λ c z e.
          let was = was_cache c z e in
          subst (λ w. RisesFrom 0 (map (λ y. y.first) w.slabs)) was.2
          (filter_rises (λ y. y.first) (λ y. not (gone y.first)) 0 was.0.slabs (h.slabs_rise c was.0 was.1));
      slabs = λ c f z cache e cached.
          let was = was_cache c z e in
          let cached_before : cache_at s t c ≡ Some cache = sym (k.caches c) ∙ cached in
          ap (λ w. slab_of w f) (sym was.2) ∙ found_kept (λ y. y.first) gone f was.0.slabs
          ∙ ap (cond (gone f) None) (h.slabs c f was.0 cache was.1 cached_before) ∙ sym (slab_now c f cache cached_before);
      mapped = mapped_now;
      in_slab = in_slab_now;
      bytes = bytes_now;
    }

pub returned_shows : ReturnedShows
returned_shows r r' b b' s s' t gone m k st h = returned_machine r r' b b' s s' t gone k st m h
