-- After an object is marked live or free, the parts show the old machine with this object live or free.
use Rattle.std.proofs.Common.{◌≡◌, ◌≢◌, ℕ, ◌+◌, ◌-◌, ◌*◌, ◌/◌, ◌%◌, ◌^◌, ◌<◌, ◌≤◌, Bool, true, false, cond, ltb, leb, List, map, Some, None, refl, sym, ap, ◌∙◌, subst, ◌⊎◌, inl, inr, ⊎_elim, arith}
use Rattle.std.specs.Prelude.{Option, option_map, is_some, slice_set, ◌&&◌}
use Rattle.std.proofs.lemmas.Bool.{false≢true, cases_eq, and_parts, ltb-true, false_from_ne_true}
use Rattle.std.proofs.lemmas.Nat.{le-div}
use Rattle.model_core.specs.Layouts.{Layout, is_small, in_object, IsFit}
use Rattle.model_core.specs.WellFormed.{RisesFrom}
use Rattle.model_core.specs.Machine.{Slab, Cache, Machine, holds, slot_of}
use Rattle.model_core.specs.Slabs.{cache_of, slab_of, with_cache, with_slab, with_live}
use Rattle.klist_core.specs.Places.{place_at}
use Rattle.space_core.specs.Content as spaces
use Rattle.space_core.specs.Windows.{byte_at}
use Rattle.buddy_core.specs.Content as buddies
use Rattle.slab_tables.specs.declared.cache.Cache as own
use Rattle.slab_tables.specs.Content.{Content, kept_at, cache_at, index_of_cache, layout_numbers}
use Rattle.machine_changes.specs.Shows.{frame_under, machine_frame_of, byte_or_zero, record_byte, live_of, is_of_cache, slab_placed, slab_under, slab_at, has_slab, bare, without_slabs, is_inside, IsSlab, ShowsMachine}
use Rattle.machine_changes.specs.Steady.{IsSteady}
use Rattle.machine_changes.specs.Changes.{Found, IsMarked}
use Rattle.machine_changes.specs.Laws.{MarkedShows}
use Rattle.machine_changes.proofs.Lookups.{some_same, found_key, keys_replaced, found_new, found_other}
use Rattle.machine_changes.proofs.SlabFacts.{one_listed, one_machine_frame, same_slab, live_stays, record_inside, shown, slab_shown}

none_above : (colour offset count chunk size : ℕ) → 0 < chunk → colour + count * chunk ≤ offset
    → (leb colour offset && (ltb ((offset - colour) / chunk) count && ltb ((offset - colour) % chunk) size)) ≡ false
none_above colour offset count chunk size some past =
    let many : count ≤ (offset - colour) / chunk = le-div count (offset - colour) chunk some (omega arith) in
    false_from_ne_true _ (λ e.
    let first = and_parts (leb colour offset) _ e in
    let second = and_parts (ltb ((offset - colour) / chunk) count) _ first.1 in
    let less = ltb-true ((offset - colour) / chunk) count second.0 in
    absurd (omega arith))

-- an offset at or past the end of the slab's last chunk is in no object
pub not_object : (l : Layout) (size colour offset : ℕ) → 16 ≤ l.chunk → colour + l.count * l.chunk ≤ offset → in_object l size colour offset ≡ false
not_object l size colour offset wide past = none_above colour offset l.count l.chunk size (omega arith) past

module _ (r r' : spaces.Content) (b : buddies.Content) (s s' : Content) (t c : ℕ) (o : Found) (v : Bool)
    (k : IsMarked r r' s s' t c o v) (st : IsSteady r b s t) (q : IsSlab r s t c o.first o.machine_frame o.cache) where
  pub machine_frame_same : (f : ℕ) → machine_frame_of s'.top r'.slots t f ≡ machine_frame_of s.top r.slots t f
  machine_frame_same f = ap (λ top. machine_frame_of top r'.slots t f) k.top ∙ ap (frame_under s.top f) (k.slots (f / 2 ^ s.top))

  pub listed_same : (n f machine_frame : ℕ) → is_of_cache n f (place_at s'.lists.places machine_frame) ≡ is_of_cache n f (place_at s.lists.places machine_frame)
  listed_same n f machine_frame =
      ⊎_elim
      (λ same. subst (λ x. is_of_cache n f (place_at s'.lists.places x) ≡ is_of_cache n f (place_at s.lists.places x)) (sym same) (k.listed n f))
      (λ differ. ap (is_of_cache n f) (k.lists machine_frame differ))
      (cases_eq machine_frame o.machine_frame)

  pub colour_same : (machine_frame : ℕ) → (kept_at s'.kept machine_frame).colour ≡ (kept_at s.kept machine_frame).colour
  colour_same machine_frame =
      ⊎_elim
      (λ same. subst (λ x. (kept_at s'.kept x).colour ≡ (kept_at s.kept x).colour) (sym same) k.colour)
      (λ differ. ap (λ kept. kept.colour) (k.kept machine_frame differ))
      (cases_eq machine_frame o.machine_frame)

  pub slab_was : (d f n : ℕ) (cache : own.Cache) → IsSlab r' s' t d f n cache → IsSlab r s t d f n cache
  slab_was d f n cache p = record {
    cached = sym (k.caches d) ∙ p.cached;
    under = sym (machine_frame_same f) ∙ p.under;
    listed = sym (listed_same (index_of_cache t d) f n) ∙ p.listed;
  }

  pub slab_is : (d f n : ℕ) (cache : own.Cache) → IsSlab r s t d f n cache → IsSlab r' s' t d f n cache
  slab_is d f n cache p = record {
    cached = k.caches d ∙ p.cached;
    under = machine_frame_same f ∙ p.under;
    listed = listed_same (index_of_cache t d) f n ∙ p.listed;
  }

  -- a slab begins at a machine frame if and only if one began there before
  has_same_at : (machine_frame : ℕ) → is_some (place_at s'.lists.places machine_frame) ≡ is_some (place_at s.lists.places machine_frame)
  has_same_at machine_frame =
      ⊎_elim
      (λ same. subst (λ x. is_some (place_at s'.lists.places x) ≡ is_some (place_at s.lists.places x)) (sym same)
      (some_of (place_at s'.lists.places o.machine_frame) (k.listed (index_of_cache t c) o.first ∙ q.listed)
      ∙ sym (some_of (place_at s.lists.places o.machine_frame) q.listed)))
      (λ differ. ap is_some (k.lists machine_frame differ))
      (cases_eq machine_frame o.machine_frame)
    where
      some_of : (place : Option (ℕ × ℕ)) → is_of_cache (index_of_cache t c) o.first place ≡ true → is_some place ≡ true
      some_of None e = absurd (false≢true e)
      some_of (Some p) e = refl

  has_same_under : (n : Option ℕ) → has_slab s' n ≡ has_slab s n
  has_same_under None = refl
  has_same_under (Some machine_frame) = has_same_at machine_frame

  pub has_same : (f : ℕ) → has_slab s' (machine_frame_of s'.top r'.slots t f) ≡ has_slab s (machine_frame_of s.top r.slots t f)
  has_same f = ap (has_slab s') (machine_frame_same f) ∙ has_same_under (machine_frame_of s.top r.slots t f)

  -- the control records of slabs other than the slab of o are unchanged
  record_stays : (f : ℕ) → f ≢ o.first → (j : ℕ) → j < 32 → record_byte r' t f j ≡ record_byte r t f j
  record_stays f differ j less =
      ap byte_or_zero (k.bytes (4096 * f + 4064 + j) (λ i few same. differ (omega arith)))

  -- slabs other than the slab of o are unchanged
  pub slab_other : (d f : ℕ) (cache : own.Cache) → cache_at s t d ≡ Some cache → f ≢ o.first → slab_at r' s' t d cache f ≡ slab_at r s t d cache f
  slab_other d f cache cached differ =
      same_slab r r' s s' t d f cache (machine_frame_same f) (λ n under. listed_same (index_of_cache t d) f n)
      (λ n under listed.
      let other : n ≢ o.machine_frame = λ same. differ (one_machine_frame r b s t st f o.first n under (q.under ∙ ap (λ x. Some x) (sym same))) in (
        k.kept n other,
        live_stays r b s t st r' (kept_at s.kept n) d f n cache (record { cached = cached; under = under; listed = listed })
            (λ small j less. record_stays f differ j less),
      ))

  -- no cache other than c has a slab at the first frame of the slab of o, before or after the change
  pub slab_none : (d : ℕ) (cache : own.Cache) → d ≢ c → slab_at r' s' t d cache o.first ≡ slab_at r s t d cache o.first
  slab_none d cache differ =
      let unlisted : is_of_cache (index_of_cache t d) o.first (place_at s.lists.places o.machine_frame) ≡ false =
      false_from_ne_true (is_of_cache (index_of_cache t d) o.first (place_at s.lists.places o.machine_frame)) (λ e.
      let same : index_of_cache t d ≡ index_of_cache t c =
      (one_listed (index_of_cache t c) o.first (index_of_cache t d) o.first (place_at s.lists.places o.machine_frame) q.listed e).0 in
      differ (omega arith)) in
      ap (slab_under r' s' t (index_of_cache t d) cache o.first) (machine_frame_same o.first ∙ q.under)
      ∙ ap (slab_placed (live_of r' t cache (kept_at s'.kept o.machine_frame) o.first) (kept_at s'.kept o.machine_frame).colour o.first)
      (listed_same (index_of_cache t d) o.first o.machine_frame ∙ unlisted)
      ∙ sym (ap (slab_under r s t (index_of_cache t d) cache o.first) q.under
      ∙ ap (slab_placed (live_of r t cache (kept_at s.kept o.machine_frame) o.first) (kept_at s.kept o.machine_frame).colour o.first) unlisted)

  -- before the change, the parts show the slab of o at its first frame
  pub slab_before : slab_at r s t c o.cache o.first ≡ Some (shown r s t c o.cache q.cached o.first o.machine_frame)
  slab_before = slab_shown r s t c o.cache q.cached o.first o.machine_frame q

  pub slab_after : slab_at r' s' t c o.cache o.first
      ≡ Some (with_live o.index v (shown r s t c o.cache q.cached o.first o.machine_frame))
  slab_after =
      ap (slab_under r' s' t (index_of_cache t c) o.cache o.first) (machine_frame_same o.first ∙ q.under)
      ∙ ap (slab_placed (live_of r' t o.cache (kept_at s'.kept o.machine_frame) o.first) (kept_at s'.kept o.machine_frame).colour o.first)
      (k.listed (index_of_cache t c) o.first ∙ q.listed)
      ∙ ap (λ live. Some (slab live (kept_at s'.kept o.machine_frame).colour)) k.live
      ∙ ap (λ colour. Some (slab (slice_set (live_of r t o.cache (kept_at s.kept o.machine_frame) o.first) o.index v) colour)) k.colour
    where
      slab : List Bool → ℕ → Slab
      slab live colour = record { first = o.first; colour = colour; live = live }

  -- a place at which the machine has a byte is not in the control record of the slab of o
  off_record : (m : Machine) → ShowsMachine r b s t m → is_small (layout_numbers o.cache).chunk ≡ true → (place byte : ℕ) → m.bytes place ≡ Some byte
      → (j : ℕ) → j < 32 → place ≢ 4096 * o.first + 4064 + j
  off_record m h small place byte e j less same =
      let fit : IsFit (layout_numbers o.cache) (kept_at s.kept o.machine_frame).colour =
      let stands = st.stands c o.first o.machine_frame o.cache q in
      subst (λ x. IsFit (layout_numbers o.cache) x) (sym stands.colour.1) (stands.layout.fits stands.colour.0) in
      let inside : is_inside place o.first o.cache ≡ true =
      subst (λ x. is_inside x o.first o.cache ≡ true) (sym same) (record_inside r b s t st c o.first o.machine_frame j o.cache q less) in
      let room = (fit.small small).1 in
      let ends = fit.inside in
      let none : in_object (layout_numbers o.cache) o.cache.layout.size (kept_at s.kept o.machine_frame).colour (place - 4096 * o.first) ≡ false =
      not_object (layout_numbers o.cache) o.cache.layout.size (kept_at s.kept o.machine_frame).colour (place - 4096 * o.first) fit.chunked (omega arith) in
      false≢true (sym none ∙ sym (h.in_slab place c o.first o.machine_frame o.cache q inside) ∙ ap is_some e)

  module _ (m : Machine) (x : Cache) (y : Slab) (h : ShowsMachine r b s t m) (ex : cache_of m c ≡ Some x) (ey : slab_of x o.first ≡ Some y) where
    abbrev marked_slab : Slab
    marked_slab = with_live o.index v y

    abbrev marked_cache : Cache
    marked_cache = with_slab marked_slab x

    abbrev marked : Machine
    marked = with_cache marked_cache m

    number_is : x.number ≡ c
    number_is = found_key (λ z. z.number) c m.caches x ex

    first_is : y.first ≡ o.first
    first_is = found_key (λ z. z.first) o.first x.slabs y ey

    -- y, the machine's slab at this frame, is the slab that the parts show there
    y_is : y ≡ shown r s t c o.cache q.cached o.first o.machine_frame
    y_is = some_same (sym ey ∙ h.slabs c o.first x o.cache ex q.cached ∙ slab_before)

    cache_marked : cache_of marked c ≡ Some marked_cache
    cache_marked =
        subst (λ n. cache_of marked n ≡ Some marked_cache) number_is
        (found_new (λ z. z.number) marked_cache x m.caches (subst (λ n. cache_of m n ≡ Some x) (sym number_is) ex))

    cache_other : (d : ℕ) → d ≢ c → cache_of marked d ≡ cache_of m d
    cache_other d differ = found_other (λ z. z.number) marked_cache d m.caches (λ same. differ (same ∙ number_is))

    -- z is the marked cache, or it is a cache with another number, which is unchanged
    abbrev WasCache : ℕ → Cache → Type 0
    WasCache d z = ((d ≡ c) × (z ≡ marked_cache)) ⊎ ((d ≢ c) × (cache_of m d ≡ Some z))

    was_cache : (d : ℕ) (z : Cache) → cache_of marked d ≡ Some z → WasCache d z
    was_cache d z e =
        ⊎_elim
        (λ same. inl (same, some_same (sym e ∙ ap (cache_of marked) same ∙ cache_marked)))
        (λ differ. inr (differ, sym (cache_other d differ) ∙ e))
        (cases_eq d c)

    caches_now : (d : ℕ) → option_map without_slabs (cache_of marked d) ≡ option_map (bare d) (cache_at s' t d)
    caches_now d =
        ⊎_elim
        (λ same. ap (λ n. option_map without_slabs (cache_of marked n)) same ∙ ap (option_map without_slabs) cache_marked
        ∙ sym (ap (option_map without_slabs) ex) ∙ ap (λ n. option_map without_slabs (cache_of m n)) (sym same))
        (λ differ. ap (option_map without_slabs) (cache_other d differ))
        (cases_eq d c)
        ∙ h.caches d ∙ ap (option_map (bare d)) (sym (k.caches d))

    slabs_rise_now : (d : ℕ) (z : Cache) → cache_of marked d ≡ Some z → RisesFrom 0 (map (λ w. w.first) z.slabs)
    slabs_rise_now d z e =
        ⊎_elim
        (λ (same : (d ≡ c) × (z ≡ marked_cache)).
        subst (λ w. RisesFrom 0 (map (λ u. u.first) w.slabs)) (sym same.1)
        (subst (λ ks. RisesFrom 0 ks) (sym (keys_replaced (λ w. w.first) marked_slab x.slabs)) (h.slabs_rise c x ex)))
        (λ (other : (d ≢ c) × (cache_of m d ≡ Some z)). h.slabs_rise d z other.1)
        (was_cache d z e)

    -- at each frame, the marked cache has the slab that the parts show there after the change
    own_slabs : (f : ℕ) → slab_of marked_cache f ≡ slab_at r' s' t c o.cache f
    own_slabs f =
        ⊎_elim
        (λ same.
        let found : slab_of marked_cache o.first ≡ Some marked_slab =
        subst (λ n. slab_of marked_cache n ≡ Some marked_slab) first_is
        (found_new (λ w. w.first) marked_slab y x.slabs (subst (λ n. slab_of x n ≡ Some y) (sym first_is) ey)) in
        ap (slab_of marked_cache) same ∙ found ∙ ap (λ w. Some (with_live o.index v w)) y_is ∙ sym slab_after
        ∙ ap (slab_at r' s' t c o.cache) (sym same))
        (λ differ.
        found_other (λ w. w.first) marked_slab f x.slabs (λ same. differ (same ∙ first_is))
        ∙ h.slabs c f x o.cache ex q.cached ∙ sym (slab_other c f o.cache q.cached differ))
        (cases_eq f o.first)

    slabs_now : (d f : ℕ) (z : Cache) (cache : own.Cache) → cache_of marked d ≡ Some z → cache_at s' t d ≡ Some cache
        → slab_of z f ≡ slab_at r' s' t d cache f
    slabs_now d f z cache e cached =
        ⊎_elim
        (λ (same : (d ≡ c) × (z ≡ marked_cache)).
        let one : cache ≡ o.cache = some_same (sym cached ∙ k.caches d ∙ ap (cache_at s t) same.0 ∙ q.cached) in
        ap (λ w. slab_of w f) same.1 ∙ own_slabs f ∙ ap (λ w. slab_at r' s' t c w f) (sym one)
        ∙ ap (λ n. slab_at r' s' t n cache f) (sym same.0))
        (λ (other : (d ≢ c) × (cache_of m d ≡ Some z)).
        let was : cache_at s t d ≡ Some cache = sym (k.caches d) ∙ cached in
        h.slabs d f z cache other.1 was
        ∙ sym (⊎_elim
        (λ here. ap (slab_at r' s' t d cache) here ∙ slab_none d cache other.0 ∙ ap (slab_at r s t d cache) (sym here))
        (λ elsewhere. slab_other d f cache was elsewhere)
        (cases_eq f o.first)))
        (was_cache d z e)

    bytes_now : (place byte : ℕ) → m.bytes place ≡ Some byte → byte_at r' t place ≡ Some byte
    bytes_now place byte e = stays (is_small (layout_numbers o.cache).chunk) refl ∙ h.bytes place byte e
      where
        stays : (small : Bool) → is_small (layout_numbers o.cache).chunk ≡ small → byte_at r' t place ≡ byte_at r t place
        stays true small = k.bytes place (off_record m h small place byte e)
        stays false large = k.large (λ small. false≢true (sym large ∙ small)) place

    pub marked_machine : ShowsMachine r' b s' t marked
    marked_machine = record {
      slots_rise = h.slots_rise;
      slots = λ u. h.slots u ∙ ap is_some (sym (k.slots u));
      blocks_rise = h.blocks_rise;
      blocks = λ f.
          h.blocks f ∙ ap (λ has. cond has None (buddies.taken_of (buddies.holding_of t b) f)) (sym (has_same f));
      caches_rise = subst (λ ks. RisesFrom 0 ks) (sym (keys_replaced (λ z. z.number) marked_cache m.caches)) h.caches_rise;
      caches = caches_now;
      slabs_rise = slabs_rise_now;
      slabs = slabs_now;
      mapped = λ place out.
          h.mapped place (λ d f n cache p. out d f n cache (slab_is d f n cache p))
          ∙ ap (λ top. holds m (slot_of top place)) (sym k.top);
      in_slab = λ place d f n cache p inside.
          h.in_slab place d f n cache (slab_was d f n cache p) inside
          ∙ ap (λ colour. in_object (layout_numbers cache) cache.layout.size colour (place - 4096 * f)) (sym (colour_same n));
      bytes = bytes_now;
    }

pub marked_shows : MarkedShows
marked_shows r r' b s s' t c o v m x y k st q less ex ey h = marked_machine r r' b s s' t c o v k st q m x y h ex ey
