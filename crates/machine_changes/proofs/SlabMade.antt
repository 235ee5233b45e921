-- After a slab is made in the parts, the parts show the old machine with the cache grown by this slab.
use Rattle.std.proofs.Common.{◌≡◌, ◌≢◌, ℕ, ◌+◌, ◌-◌, ◌*◌, ◌/◌, ◌%◌, ◌^◌, ◌<◌, ◌≤◌, Bool, true, false, cond, zero, suc, [], ◌∷◌, map, Some, None, refl, sym, ap, ◌∙◌, subst, ◌⊎◌, inl, inr, ⊎_elim, arith}
use Rattle.std.specs.Prelude.{Option, option_map, is_some, replicate, ◌&&◌, ◌==◌}
use Rattle.std.proofs.lemmas.Bool.{eq-eqb, ne_eqb, cases_eq, false_from_ne_true}
use Rattle.std.proofs.lemmas.Nat.Bits.{bit_at-zero}
use Rattle.model_core.specs.Blocks.{block, HasFrame}
use Rattle.model_core.specs.Layouts.{IsLayout, is_small, in_object, colour_offset, pattern_byte}
use Rattle.model_core.specs.WellFormed.{RisesFrom}
use Rattle.model_core.specs.Machine.{Slab, Cache, Machine, holds, slot_of, in_block, order_in, layout, slab_block}
use Rattle.model_core.specs.Slabs.{cache_of, slab_of, new_slab, fresh_byte, grown_cache, grown}
use Rattle.model_core.proofs.Lists.{each_from, put_rises}
use Rattle.model_core.proofs.BlocksApart.{in_block-true, has_first}
use Rattle.klist_core.specs.Places.{place_at}
use Rattle.space_core.specs.Content as spaces
use Rattle.space_core.specs.Windows.{byte_at}
use Rattle.buddy_core.specs.Content as buddies
use Rattle.slab_tables.specs.declared.cache.Cache as own
use Rattle.slab_tables.specs.Content.{Content, kept_at, cache_at, index_of_cache, head_of, layout_numbers}
use Rattle.slab_tables.specs.Changes.{fresh_kept, made_more}
use Rattle.machine_changes.specs.Records.{is_set, flags_from}
use Rattle.machine_changes.specs.Shows.{frame_under, machine_frame_of, byte_or_zero, record_byte, is_live, live_of, is_of_cache, slab_placed, slab_under, slab_at, has_slab, bare, without_slabs, is_inside, IsSlab, ShowsMachine}
use Rattle.machine_changes.specs.Steady.{IsSteady}
use Rattle.machine_changes.specs.Changes.{IsGrown}
use Rattle.machine_changes.specs.Laws.{GrownShows}
use Rattle.machine_changes.proofs.Lookups.{some_none, some_same, found_key, keys_replaced, found_new, found_other, in_found, found_put}
use Rattle.machine_changes.proofs.SlabFacts.{one_listed, one_slab, one_machine_frame, same_slab, live_stays, record_inside, cache_kept}

-- if none of the n numbers from k on passes the test, all their flags are false
pub all_down : (k n : ℕ) (p : ℕ → Bool) → ((i : ℕ) → k ≤ i → i < k + n → p i ≡ false) → flags_from k n p ≡ replicate n false
all_down k zero p down = refl
all_down k (suc n) p down =
    ap (λ b. b ∷ flags_from (suc k) n p) (down k (omega arith) (omega arith))
    ∙ ap (λ bs. false ∷ bs) (all_down (suc k) n p (λ i low high. down i (omega arith) (omega arith)))

pub none_set : (i : ℕ) → is_set 0 i ≡ false
none_set i = ap (λ x. x == 1) (bit_at-zero i)

third : (n : ℕ) → (3 * n + 2) / 3 ≡ n
third n = omega arith

module _ (r r' : spaces.Content) (b b' : buddies.Content) (s s' : Content) (t c : ℕ) (cache : own.Cache) (f n : ℕ)
    (k : IsGrown r r' b b' s s' t c cache f n) (st : IsSteady r b s t) (cut : IsLayout cache.layout.size cache.layout.align (layout_numbers cache))
    (apart : (g j x : ℕ) → buddies.taken_of (buddies.holding_of t b) g ≡ Some j → HasFrame (block g j) x → HasFrame (block f (layout_numbers cache).order) x → ⊥) where
  machine_frame_same : (g : ℕ) → machine_frame_of s'.top r'.slots t g ≡ machine_frame_of s.top r.slots t g
  machine_frame_same g = ap (λ top. machine_frame_of top r'.slots t g) k.top ∙ ap (frame_under s.top g) (k.slots (g / 2 ^ s.top))

  -- the new slab's block shares no place with any older slab
  apart_slab : (place d g x : ℕ) (other : own.Cache) → IsSlab r s t d g x other → is_inside place g other ≡ true → is_inside place f cache ≡ false
  apart_slab place d g x other q inside =
      false_from_ne_true (is_inside place f cache) (λ here.
      apart g (layout_numbers other).order (place / 4096) (st.stands d g x other q).taken
      (in_block-true place (block g (layout_numbers other).order) inside) (in_block-true place (block f (layout_numbers cache).order) here))

  -- no taken block began at frame f before
  untaken : buddies.taken_of (buddies.holding_of t b) f ≡ None
  untaken = go (buddies.taken_of (buddies.holding_of t b) f) refl
    where
      go : (o : Option ℕ) → buddies.taken_of (buddies.holding_of t b) f ≡ o → buddies.taken_of (buddies.holding_of t b) f ≡ None
      go None e = e
      go (Some j) e = absurd (apart f j f e (has_first (block f j)) (has_first (block f (layout_numbers cache).order)))

  not_first : (d g x : ℕ) (other : own.Cache) → IsSlab r s t d g x other → g ≢ f
  not_first d g x other q same =
      some_none (sym (st.stands d g x other q).taken ∙ ap (buddies.taken_of (buddies.holding_of t b)) same ∙ untaken)

  -- a frame other than f has a machine frame other than n
  differs : (g x : ℕ) → machine_frame_of s.top r.slots t g ≡ Some x → g ≢ f → x ≢ n
  differs g x under other same = other (one_machine_frame r b s t st g f x under (k.under ∙ ap (λ y. Some y) (sym same)))

  -- each cache after the change existed before, with the same layout
  pub record WasCached (d : ℕ) (other : own.Cache) : Type 0 where
    pub before : own.Cache
    pub cached : cache_at s t d ≡ Some before
    pub layout : before.layout ≡ other.layout

  was_cached : (d : ℕ) (other : own.Cache) → cache_at s' t d ≡ Some other → WasCached d other
  was_cached d other e =
      ⊎_elim
      (λ (same : d ≡ c).
      let is : other ≡ made_more cache = some_same (sym e ∙ ap (cache_at s' t) same ∙ k.made) in
      let layout : cache.layout ≡ other.layout = sym (ap (λ z. z.layout) is) in
      record { before = cache; cached = ap (cache_at s t) same ∙ k.cached; layout = layout })
      (λ (differ : d ≢ c). record { before = other; cached = sym (k.caches d differ) ∙ e; layout = refl })
      (cases_eq d c)

  -- conversely, each cache that existed before still exists, with the same layout
  pub record NowCached (d : ℕ) (other : own.Cache) : Type 0 where
    pub after : own.Cache
    pub cached : cache_at s' t d ≡ Some after
    pub layout : after.layout ≡ other.layout

  now_cached : (d : ℕ) (other : own.Cache) → cache_at s t d ≡ Some other → NowCached d other
  now_cached d other e =
      ⊎_elim
      (λ (same : d ≡ c).
      let is : other ≡ cache = some_same (sym e ∙ ap (cache_at s t) same ∙ k.cached) in
      let layout : cache.layout ≡ other.layout = sym (ap (λ z. z.layout) is) in
      record { after = made_more cache; cached = ap (cache_at s' t) same ∙ k.made; layout = layout })
      (λ (differ : d ≢ c). record { after = other; cached = k.caches d differ ∙ e; layout = refl })
      (cases_eq d c)

  listed_other : (d g x : ℕ) → machine_frame_of s.top r.slots t g ≡ Some x → g ≢ f
      → is_of_cache d g (place_at s'.lists.places x) ≡ is_of_cache d g (place_at s.lists.places x)
  listed_other d g x under other = ap (is_of_cache d g) (k.lists x (differs g x under other))

  pub record WasSlab (d g x : ℕ) (other : own.Cache) : Type 0 where
    pub before : own.Cache
    pub slab : IsSlab r s t d g x before
    pub layout : before.layout ≡ other.layout

  slab_was : (d g x : ℕ) (other : own.Cache) → IsSlab r' s' t d g x other → g ≢ f → WasSlab d g x other
  slab_was d g x other p differ =
      let was = was_cached d other p.cached in
      let under : machine_frame_of s.top r.slots t g ≡ Some x = sym (machine_frame_same g) ∙ p.under in
      record {
        before = was.before;
        slab = record { cached = was.cached; under = under; listed = sym (listed_other (index_of_cache t d) g x under differ) ∙ p.listed };
        layout = was.layout;
      }

  pub record NowSlab (d g x : ℕ) (other : own.Cache) : Type 0 where
    pub after : own.Cache
    pub slab : IsSlab r' s' t d g x after
    pub layout : after.layout ≡ other.layout

  slab_stays : (d g x : ℕ) (other : own.Cache) → IsSlab r s t d g x other → NowSlab d g x other
  slab_stays d g x other q =
      let now = now_cached d other q.cached in
      record {
        after = now.after;
        slab = record {
          cached = now.cached;
          under = machine_frame_same g ∙ q.under;
          listed = listed_other (index_of_cache t d) g x q.under (not_first d g x other q) ∙ q.listed;
        };
        layout = now.layout;
      }

  -- the new slab is in a list of cache c

  new_listed : is_of_cache (index_of_cache t c) f (place_at s'.lists.places n) ≡ true
  new_listed =
      ap (is_of_cache (index_of_cache t c) f) k.listed
      ∙ ap (λ x. x && (f == f)) (eq-eqb (head_of t c 2 / 3) (index_of_cache t c) (third (index_of_cache t c))) ∙ eq-eqb f f refl

  new_is : IsSlab r' s' t c f n (made_more cache)
  new_is = record { cached = k.made; under = machine_frame_same f ∙ k.under; listed = new_listed }

  new_live : live_of r' t cache (fresh_kept cache) f ≡ replicate (layout_numbers cache).count false
  new_live = all_down 0 (layout_numbers cache).count (is_live r' t cache (fresh_kept cache) f) down
    where
      by : (small : Bool) (i : ℕ) → is_small (layout_numbers cache).chunk ≡ small → i < 256
          → cond small (is_set (record_byte r' t f (i / 8)) (i % 8)) (is_set 0 i) ≡ false
      by true i small few = ap (λ x. is_set x (i % 8)) (k.clear small (i / 8) (omega arith)) ∙ none_set (i % 8)
      by false i large few = none_set i

      down : (i : ℕ) → 0 ≤ i → i < 0 + (layout_numbers cache).count → is_live r' t cache (fresh_kept cache) f i ≡ false
      down i low high =
          let few : (layout_numbers cache).count ≤ 256 = (cut.fits 0).few in
          by (is_small (layout_numbers cache).chunk) i refl (omega arith)

  abbrev fresh : Slab
  fresh = record { first = f; colour = (fresh_kept cache).colour; live = replicate (layout_numbers cache).count false }

  new_at : slab_at r' s' t c (made_more cache) f ≡ Some fresh
  new_at =
      ap (slab_under r' s' t (index_of_cache t c) cache f) (machine_frame_same f ∙ k.under)
      ∙ ap (slab_placed (live_of r' t cache (kept_at s'.kept n) f) (kept_at s'.kept n).colour f) new_listed
      ∙ ap (λ kept. slab_placed (live_of r' t cache kept f) kept.colour f true) k.fresh
      ∙ ap (λ live. slab_placed live (fresh_kept cache).colour f true) new_live

  -- after the change, no cache other than c has a slab at frame f
  none_new : (d : ℕ) (other : own.Cache) → d ≢ c → slab_at r' s' t d other f ≡ None
  none_new d other differ =
      let unlisted : is_of_cache (index_of_cache t d) f (place_at s'.lists.places n) ≡ false =
      false_from_ne_true (is_of_cache (index_of_cache t d) f (place_at s'.lists.places n)) (λ e.
      let same : index_of_cache t d ≡ index_of_cache t c =
      (one_listed (index_of_cache t c) f (index_of_cache t d) f (place_at s'.lists.places n) new_listed e).0 in
      differ (omega arith)) in
      ap (slab_under r' s' t (index_of_cache t d) other f) (machine_frame_same f ∙ k.under)
      ∙ ap (slab_placed (live_of r' t other (kept_at s'.kept n) f) (kept_at s'.kept n).colour f) unlisted

  none_before : (d : ℕ) (other : own.Cache) → slab_at r s t d other f ≡ None
  none_before d other =
      ap (slab_under r s t (index_of_cache t d) other f) k.under
      ∙ ap (λ place. slab_placed (live_of r t other (kept_at s.kept n) f) (kept_at s.kept n).colour f (is_of_cache (index_of_cache t d) f place)) k.vacant

  -- slabs at other frames keep their live objects

  live_now : (d g x : ℕ) (other : own.Cache) → IsSlab r s t d g x other
      → live_of r' t other (kept_at s.kept x) g ≡ live_of r t other (kept_at s.kept x) g
  live_now d g x other q =
      live_stays r b s t st r' (kept_at s.kept x) d g x other q
      (λ small j less. ap byte_or_zero (k.bytes (4096 * g + 4064 + j)
      (apart_slab (4096 * g + 4064 + j) d g x other q (record_inside r b s t st d g x j other q less))))

  slab_other : (d g : ℕ) (other : own.Cache) → cache_at s t d ≡ Some other → g ≢ f → slab_at r' s' t d other g ≡ slab_at r s t d other g
  slab_other d g other cached differ =
      same_slab r r' s s' t d g other (machine_frame_same g) (λ x under. listed_other (index_of_cache t d) g x under differ)
      (λ x under listed. (k.kept x (differs g x under differ), live_now d g x other (record { cached = cached; under = under; listed = listed })))

  has_under : (g : ℕ) (o : Option ℕ) → machine_frame_of s.top r.slots t g ≡ o → g ≢ f → has_slab s' o ≡ has_slab s o
  has_under g None under differ = refl
  has_under g (Some x) under differ = ap is_some (k.lists x (differs g x under differ))

  has_now : (g : ℕ) → g ≢ f → has_slab s' (machine_frame_of s'.top r'.slots t g) ≡ has_slab s (machine_frame_of s.top r.slots t g)
  has_now g differ = ap (has_slab s') (machine_frame_same g) ∙ has_under g (machine_frame_of s.top r.slots t g) refl differ

  has_new : has_slab s' (machine_frame_of s'.top r'.slots t f) ≡ true
  has_new = ap (has_slab s') (machine_frame_same f ∙ k.under) ∙ ap is_some k.listed

  module _ (m : Machine) (x : Cache) (ex : cache_of m c ≡ Some x) (h : ShowsMachine r b s t m) where
    -- apart from its slabs, the machine's cache x is cache c of the tables
    same : without_slabs x ≡ bare c cache
    same =
        let there = cache_kept r b s t m h c x ex in
        let is : there.kept ≡ cache = some_same (sym there.cached ∙ k.cached) in
        there.same ∙ ap (bare c) is

    number_is : x.number ≡ c
    number_is = found_key (λ z. z.number) c m.caches x ex

    new_slab_is : new_slab x f ≡ fresh
    new_slab_is = ap (λ z. record { first = f; colour = colour_offset z.align z.made (layout z); live = replicate (layout z).count false }) same

    inside_is : (place : ℕ) → in_block place (slab_block x (new_slab x f)) ≡ is_inside place f cache
    inside_is place = ap (λ z. in_block place (block f (layout z).order)) same

    -- the byte that cache z puts at this place of its new slab at frame f, or None if the place is in no object
    abbrev byte_of : Cache → ℕ → Option ℕ
    byte_of z place = cond (in_object (layout z) z.size (colour_offset z.align z.made (layout z)) (place - 4096 * f))
        (Some (pattern_byte z.pattern ((place - 4096 * f - colour_offset z.align z.made (layout z)) % (layout z).chunk))) None

    abbrev constructed : ℕ → Option ℕ
    constructed place = byte_of (bare c cache) place

    fresh_is : (place : ℕ) → fresh_byte x (new_slab x f) place ≡ constructed place
    unfolding fresh_byte
    fresh_is place = ap (λ z. byte_of z place) same

    bytes_are : (place : ℕ) → (grown f x m).bytes place ≡ cond (is_inside place f cache) (constructed place) (m.bytes place)
    unfolding grown
    bytes_are place =
        ap (λ v. cond v (fresh_byte x (new_slab x f) place) (m.bytes place)) (inside_is place)
        ∙ ap (λ v. cond (is_inside place f cache) v (m.bytes place)) (fresh_is place)

    cache_grown : cache_of (grown f x m) c ≡ Some (grown_cache f x)
    unfolding grown grown_cache
    cache_grown =
        subst (λ i. cache_of (grown f x m) i ≡ Some (grown_cache f x)) number_is
        (found_new (λ z. z.number) (grown_cache f x) x m.caches (subst (λ i. cache_of m i ≡ Some x) (sym number_is) ex))

    cache_other : (d : ℕ) → d ≢ c → cache_of (grown f x m) d ≡ cache_of m d
    unfolding grown grown_cache
    cache_other d differ = found_other (λ z. z.number) (grown_cache f x) d m.caches (λ e. differ (e ∙ number_is))

    bare_grown : without_slabs (grown_cache f x) ≡ bare c (made_more cache)
    unfolding grown_cache
    bare_grown = ap {A = Cache} (λ z. record z { made = (z.made + 1) % (layout z).colours }) same

    caches_rise_now : RisesFrom 0 (map (λ z. z.number) (grown f x m).caches)
    unfolding grown grown_cache
    caches_rise_now = subst (λ ks. RisesFrom 0 ks) (sym (keys_replaced (λ z. z.number) (grown_cache f x) m.caches)) h.caches_rise

    no_slab : slab_of x f ≡ None
    no_slab = h.slabs c f x cache ex k.cached ∙ none_before c cache

    own_rise : RisesFrom 0 (map (λ y. y.first) (grown_cache f x).slabs)
    unfolding grown_cache
    own_rise =
        put_rises (λ y. y.first) 0 (new_slab x f) x.slabs (h.slabs_rise c x ex) (omega arith)
        (each_from (λ y. y.first ≢ f) x.slabs (λ y i e.
        some_none (sym (in_found (λ z. z.first) 0 y x.slabs (h.slabs_rise c x ex) i) ∙ ap (slab_of x) e ∙ no_slab)))

    -- z is the grown cache, or it is a cache with another number, which is unchanged
    abbrev WasCache : ℕ → Cache → Type 0
    WasCache d z = ((d ≡ c) × (z ≡ grown_cache f x)) ⊎ ((d ≢ c) × (cache_of m d ≡ Some z))

    was_cache : (d : ℕ) (z : Cache) → cache_of (grown f x m) d ≡ Some z → WasCache d z
    was_cache d z e =
        ⊎_elim
        (λ here. inl (here, some_same (sym e ∙ ap (cache_of (grown f x m)) here ∙ cache_grown)))
        (λ differ. inr (differ, sym (cache_other d differ) ∙ e))
        (cases_eq d c)

    caches_now : (d : ℕ) → option_map without_slabs (cache_of (grown f x m) d) ≡ option_map (bare d) (cache_at s' t d)
    caches_now d =
        ⊎_elim
        (λ here.
        ap (λ i. option_map without_slabs (cache_of (grown f x m) i)) here
        ∙ ap (option_map without_slabs) cache_grown ∙ ap (λ z. Some z) bare_grown
        ∙ sym (ap (option_map (bare c)) k.made) ∙ ap (λ i. option_map (bare i) (cache_at s' t i)) (sym here))
        (λ differ. ap (option_map without_slabs) (cache_other d differ) ∙ h.caches d ∙ ap (option_map (bare d)) (sym (k.caches d differ)))
        (cases_eq d c)

    slabs_rise_now : (d : ℕ) (z : Cache) → cache_of (grown f x m) d ≡ Some z → RisesFrom 0 (map (λ y. y.first) z.slabs)
    slabs_rise_now d z e =
        ⊎_elim
        (λ (here : (d ≡ c) × (z ≡ grown_cache f x)). subst (λ w. RisesFrom 0 (map (λ y. y.first) w.slabs)) (sym here.1) own_rise)
        (λ (other : (d ≢ c) × (cache_of m d ≡ Some z)). h.slabs_rise d z other.1)
        (was_cache d z e)

    own_slabs : (g : ℕ) → slab_of (grown_cache f x) g ≡ slab_at r' s' t c (made_more cache) g
    unfolding grown_cache
    own_slabs g =
        found_put (λ y. y.first) (new_slab x f) g x.slabs no_slab
        ∙ ⊎_elim
        (λ here.
        ap (λ v. cond v (Some (new_slab x f)) (slab_of x g)) (eq-eqb f g (sym here)) ∙ ap (λ y. Some y) new_slab_is ∙ sym new_at
        ∙ ap (slab_at r' s' t c (made_more cache)) (sym here))
        (λ differ.
        ap (λ v. cond v (Some (new_slab x f)) (slab_of x g)) (ne_eqb f g (λ e. differ (sym e)))
        ∙ h.slabs c g x cache ex k.cached ∙ sym (slab_other c g cache k.cached differ))
        (cases_eq g f)

    slabs_now : (d g : ℕ) (z : Cache) (other : own.Cache) → cache_of (grown f x m) d ≡ Some z → cache_at s' t d ≡ Some other
        → slab_of z g ≡ slab_at r' s' t d other g
    slabs_now d g z other e cached =
        ⊎_elim
        (λ (here : (d ≡ c) × (z ≡ grown_cache f x)).
        let is : other ≡ made_more cache = some_same (sym cached ∙ ap (cache_at s' t) here.0 ∙ k.made) in
        ap (λ w. slab_of w g) here.1 ∙ own_slabs g ∙ ap (λ w. slab_at r' s' t c w g) (sym is) ∙ ap (λ i. slab_at r' s' t i other g) (sym here.0))
        (λ (there : (d ≢ c) × (cache_of m d ≡ Some z)).
        let was : cache_at s t d ≡ Some other = sym (k.caches d there.0) ∙ cached in
        h.slabs d g z other there.1 was
        ∙ ⊎_elim
        (λ here. ap (slab_at r s t d other) here ∙ none_before d other ∙ sym (none_new d other there.0) ∙ ap (slab_at r' s' t d other) (sym here))
        (λ differ. sym (slab_other d g other was differ))
        (cases_eq g f))
        (was_cache d z e)

    blocks_now : (g : ℕ) → order_in m.blocks g
        ≡ cond (has_slab s' (machine_frame_of s'.top r'.slots t g)) None (buddies.taken_of (buddies.holding_of t b') g)
    blocks_now g =
        h.blocks g
        ∙ ⊎_elim
        (λ here.
        ap (λ i. cond (has_slab s (machine_frame_of s.top r.slots t i)) None (buddies.taken_of (buddies.holding_of t b) i)) here
        ∙ ap (cond (has_slab s (machine_frame_of s.top r.slots t f)) None) untaken ∙ both (has_slab s (machine_frame_of s.top r.slots t f))
        ∙ sym (ap (λ v. cond v None (buddies.taken_of (buddies.holding_of t b') f)) has_new)
        ∙ ap (λ i. cond (has_slab s' (machine_frame_of s'.top r'.slots t i)) None (buddies.taken_of (buddies.holding_of t b') i)) (sym here))
        (λ differ.
        ap (λ v. cond v None (buddies.taken_of (buddies.holding_of t b) g)) (sym (has_now g differ))
        ∙ ap (cond (has_slab s' (machine_frame_of s'.top r'.slots t g)) None)
        (sym (k.taken g ∙ ap (λ v. cond v (Some (layout_numbers cache).order) (buddies.taken_of (buddies.holding_of t b) g)) (ne_eqb g f differ))))
        (cases_eq g f)
      where
        both : (v : Bool) → cond v None None ≡ order_in [] g
        both true = refl
        both false = refl

    mapped_now : (place : ℕ) → ((d g y : ℕ) (other : own.Cache) → IsSlab r' s' t d g y other → is_inside place g other ≡ false)
        → is_some ((grown f x m).bytes place) ≡ holds m (slot_of s'.top place)
    mapped_now place out =
        ap is_some (bytes_are place)
        ∙ ap (λ v. is_some (cond v (constructed place) (m.bytes place))) (out c f n (made_more cache) new_is)
        ∙ h.mapped place (λ d g y other q.
        let now = slab_stays d g y other q in
        ap (λ l. is_inside place g (record other { layout = l })) (sym now.layout) ∙ out d g y now.after now.slab)
        ∙ ap (λ top. holds m (slot_of top place)) (sym k.top)

    is_some_if : (v : Bool) (a : ℕ) → is_some (cond v (Some a) None) ≡ v
    is_some_if true a = refl
    is_some_if false a = refl

    in_slab_now : (place d g y : ℕ) (other : own.Cache) → IsSlab r' s' t d g y other → is_inside place g other ≡ true
        → is_some ((grown f x m).bytes place) ≡ in_object (layout_numbers other) other.layout.size (kept_at s'.kept y).colour (place - 4096 * g)
    in_slab_now place d g y other p inside = ⊎_elim here there (cases_eq g f)
      where
        here : g ≡ f → is_some ((grown f x m).bytes place) ≡ in_object (layout_numbers other) other.layout.size (kept_at s'.kept y).colour (place - 4096 * g)
        here e =
            let one = one_slab r' s' t c f n d g y (made_more cache) other new_is p e in
            let layout : cache.layout ≡ other.layout = sym (ap (λ z. z.layout) one.same) in
            let inside_new : is_inside place f cache ≡ true =
            ap (λ i. is_inside place i cache) (sym e) ∙ ap (λ l. is_inside place g (record cache { layout = l })) layout ∙ inside in
            let colour : (kept_at s'.kept y).colour ≡ (fresh_kept cache).colour = ap (λ i. (kept_at s'.kept i).colour) one.machine_frame ∙ ap (λ z. z.colour) k.fresh in
            ap is_some (bytes_are place) ∙ ap (λ v. is_some (cond v (constructed place) (m.bytes place))) inside_new
            ∙ is_some_if (in_object (layout_numbers cache) cache.layout.size (fresh_kept cache).colour (place - 4096 * f)) _
            ∙ ap (λ l. in_object (layout_numbers (record cache { layout = l })) l.size (fresh_kept cache).colour (place - 4096 * f)) layout
            ∙ ap (λ v. in_object (layout_numbers other) other.layout.size v (place - 4096 * f)) (sym colour)
            ∙ ap (λ i. in_object (layout_numbers other) other.layout.size (kept_at s'.kept y).colour (place - 4096 * i)) (sym e)

        there : g ≢ f → is_some ((grown f x m).bytes place) ≡ in_object (layout_numbers other) other.layout.size (kept_at s'.kept y).colour (place - 4096 * g)
        there differ =
            let was = slab_was d g y other p differ in
            let inside_before : is_inside place g was.before ≡ true =
            ap (λ l. is_inside place g (record other { layout = l })) was.layout ∙ inside in
            ap is_some (bytes_are place)
            ∙ ap (λ v. is_some (cond v (constructed place) (m.bytes place))) (apart_slab place d g y was.before was.slab inside_before)
            ∙ h.in_slab place d g y was.before was.slab inside_before
            ∙ ap (λ l. in_object (layout_numbers (record other { layout = l })) l.size (kept_at s.kept y).colour (place - 4096 * g)) was.layout
            ∙ ap (λ v. in_object (layout_numbers other) other.layout.size v.colour (place - 4096 * g)) (sym (k.kept y (differs g y was.slab.under differ)))

    bytes_now : (place byte : ℕ) → (grown f x m).bytes place ≡ Some byte → byte_at r' t place ≡ Some byte
    bytes_now place byte e = go (is_inside place f cache) refl (sym (bytes_are place) ∙ e)
      where
        inside_object : (v : Bool) → is_inside place f cache ≡ true
            → in_object (layout_numbers cache) cache.layout.size (fresh_kept cache).colour (place - 4096 * f) ≡ v
            → cond v (Some (pattern_byte cache.pattern ((place - 4096 * f - (fresh_kept cache).colour) % (layout_numbers cache).chunk))) None ≡ Some byte
            → byte_at r' t place ≡ Some byte
        inside_object true inside within e = k.constructed place inside within ∙ e
        inside_object false inside within e = absurd (some_none (sym e))

        go : (v : Bool) → is_inside place f cache ≡ v → cond v (constructed place) (m.bytes place) ≡ Some byte → byte_at r' t place ≡ Some byte
        go true inside e = inside_object (in_object (layout_numbers cache) cache.layout.size (fresh_kept cache).colour (place - 4096 * f)) inside refl e
        go false outside e = k.bytes place outside ∙ h.bytes place byte e

    pub grown_machine : ShowsMachine r' b' s' t (grown f x m)
    unfolding grown
    grown_machine = record {
      slots_rise = h.slots_rise;
      slots = λ u. h.slots u ∙ ap is_some (sym (k.slots u));
      blocks_rise = h.blocks_rise;
      blocks = blocks_now;
      caches_rise = caches_rise_now;
      caches = caches_now;
      slabs_rise = slabs_rise_now;
      slabs = slabs_now;
      mapped = mapped_now;
      in_slab = in_slab_now;
      bytes = bytes_now;
    }

pub grown_shows : GrownShows
grown_shows r r' b b' s s' t c cache f n m x k st cut apart ex h = grown_machine r r' b b' s s' t c cache f n k st cut apart m x ex h
