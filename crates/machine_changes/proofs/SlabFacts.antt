-- The slabs of a tenant in the tables are exactly the slabs of the tenant's machine, and no two of them share a place.
use Rattle.std.proofs.Common.{◌≡◌, ℕ, ◌+◌, ◌*◌, ◌/◌, ◌%◌, ◌^◌, ◌<◌, ◌≤◌, Bool, true, false, cond, zero, suc, ◌∷◌, Some, None, refl, sym, ap, ◌∙◌, subst, arith}
use Rattle.std.specs.Prelude.{Option, option_map, is_some, ◌==◌}
use Rattle.std.proofs.lemmas.Bool.{false≢true, eqb-true, and_parts}
use Rattle.std.proofs.lemmas.Nat.{div-mul-add, mod-mul-add, div-add-mod', mod_below, pow_pos}
use Rattle.model_core.specs.Blocks.{block, HasFrame}
use Rattle.model_core.specs.Layouts.{is_small}
use Rattle.model_core.specs.Machine.{Slab, Cache, Machine, slot_of, layout}
use Rattle.model_core.specs.Slabs.{cache_of, slab_of}
use Rattle.model_core.proofs.BlocksApart.{in_block-true, in_block-from, has_first}
use Rattle.model_core.proofs.BlocksByNumber.{number_of_frame, same_slot}
use Rattle.model_core.proofs.Lists.{none_of}
use Rattle.klist_core.specs.Places.{place_at}
use Rattle.space_core.specs.Content as spaces
use Rattle.buddy_core.specs.Content as buddies
use Rattle.slab_tables.specs.declared.cache.Cache as own
use Rattle.slab_tables.specs.declared.cache.Kept.{Kept}
use Rattle.slab_tables.specs.Content.{Content, kept_at, cache_at, index_of_cache, layout_numbers}
use Rattle.machine_changes.specs.Records.{is_set, flags_from}
use Rattle.machine_changes.specs.Shows.{frame_under, machine_frame_of, record_byte, is_live, live_of, is_of_cache, slab_placed, slab_under, slab_at, has_slab, bare, without_slabs, is_inside, IsSlab, ShowsMachine}
use Rattle.machine_changes.specs.Steady.{IsSteady}
use Rattle.machine_changes.proofs.Lookups.{some_none, some_same, mapped_from}

-- Caches with and without their slabs

pub none_mapped : (o : Option Cache) → option_map without_slabs o ≡ None → o ≡ None
none_mapped None e = refl
none_mapped (Some x) e = absurd (some_none e)

-- tests that agree on the n numbers from k on give the same flags
pub same_below : (k n : ℕ) (p q : ℕ → Bool) → ((i : ℕ) → k ≤ i → i < k + n → p i ≡ q i) → flags_from k n p ≡ flags_from k n q
same_below k zero p q same = refl
same_below k (suc n) p q same =
    ap (λ b. b ∷ flags_from (suc k) n p) (same k (omega arith) (omega arith))
    ∙ ap (λ bs. q k ∷ bs) (same_below (suc k) n p q (λ i low high. same i (omega arith) (omega arith)))

-- Machine frames

-- a machine frame determines its superblock and its frame in the superblock
pub superblock_of_machine_frame : (top m f : ℕ) → (m * 2 ^ top + f % 2 ^ top) / 2 ^ top ≡ m
superblock_of_machine_frame top m f = div-mul-add m (2 ^ top) (f % 2 ^ top) (mod_below f (2 ^ top) (pow_pos top))

pub frame_of_machine_frame : (top m f : ℕ) → (m * 2 ^ top + f % 2 ^ top) % 2 ^ top ≡ f % 2 ^ top
frame_of_machine_frame top m f = mod-mul-add m (2 ^ top) (f % 2 ^ top) (mod_below f (2 ^ top) (pow_pos top))

pub under_is : (top f n : ℕ) (o : Option ℕ) → frame_under top f o ≡ Some n → (m : ℕ) × (o ≡ Some m) × (n ≡ m * 2 ^ top + f % 2 ^ top)
under_is top f n None e = absurd (some_none (sym e))
under_is top f n (Some m) e = (m, refl, sym (some_same e))

some_listed : (n f : ℕ) (o : Option (ℕ × ℕ)) → is_of_cache n f o ≡ true → is_some o ≡ true
some_listed n f None e = absurd (false≢true e)
some_listed n f (Some p) e = refl

-- a list entry is a slab of at most one cache, with at most one first frame
pub one_listed : (n f n' f' : ℕ) (o : Option (ℕ × ℕ)) → is_of_cache n f o ≡ true → is_of_cache n' f' o ≡ true → (n' ≡ n) × (f' ≡ f)
one_listed n f n' f' None e e' = absurd (false≢true e)
one_listed n f n' f' (Some p) e e' =
    let here = and_parts (p.0 / 3 == n) (p.1 == f) e in
    let there = and_parts (p.0 / 3 == n') (p.1 == f') e' in
    (sym (eqb-true (p.0 / 3) n' there.0) ∙ eqb-true (p.0 / 3) n here.0, sym (eqb-true p.1 f' there.1) ∙ eqb-true p.1 f here.1)

module _ (r : spaces.Content) (s : Content) (t : ℕ) where
  -- `has_slab` is true at the first frame of each slab
  pub has_it : (c f n : ℕ) (cache : own.Cache) → IsSlab r s t c f n cache → has_slab s (machine_frame_of s.top r.slots t f) ≡ true
  has_it c f n cache q = ap (has_slab s) q.under ∙ some_listed (index_of_cache t c) f (place_at s.lists.places n) q.listed

  -- two slabs of the tenant that begin at the same frame are the same slab
  pub record IsOneSlab (c f n c' f' n' : ℕ) (cache cache' : own.Cache) : Type 0 where
    pub number : c' ≡ c
    pub machine_frame : n' ≡ n
    pub same : cache' ≡ cache

  pub one_slab : (c f n c' f' n' : ℕ) (cache cache' : own.Cache) → IsSlab r s t c f n cache → IsSlab r s t c' f' n' cache' → f' ≡ f
      → IsOneSlab c f n c' f' n' cache cache'
  one_slab c f n c' f' n' cache cache' q q' e =
      let machine_frame : n' ≡ n = some_same (sym q'.under ∙ ap (λ g. machine_frame_of s.top r.slots t g) e ∙ q.under) in
      let listed : is_of_cache (index_of_cache t c') f' (place_at s.lists.places n) ≡ true =
      subst (λ x. is_of_cache (index_of_cache t c') f' (place_at s.lists.places x) ≡ true) machine_frame q'.listed in
      let both = one_listed (index_of_cache t c) f (index_of_cache t c') f' (place_at s.lists.places n) q.listed listed in
      let number : c' ≡ c = let same = both.0 in omega arith in
      record {
        number = number;
        machine_frame = machine_frame;
        same = some_same (sym q'.cached ∙ ap (cache_at s t) number ∙ q.cached);
      }

module _ (r : spaces.Content) (b : buddies.Content) (s : Content) (t : ℕ) (st : IsSteady r b s t) where
  -- a machine frame belongs to at most one frame of t
  pub one_machine_frame : (f g n : ℕ) → machine_frame_of s.top r.slots t f ≡ Some n → machine_frame_of s.top r.slots t g ≡ Some n → f ≡ g
  one_machine_frame f g n e e' =
      let z = 2 ^ s.top in
      let here = under_is s.top f n (spaces.superblock_at r.slots t (f / z)) e in
      let there = under_is s.top g n (spaces.superblock_at r.slots t (g / z)) e' in
      let machine_frame : here.0 * z + f % z ≡ there.0 * z + g % z = sym here.2 ∙ there.2 in
      let superblock : here.0 ≡ there.0 = sym (superblock_of_machine_frame s.top here.0 f) ∙ ap (λ x. x / z) machine_frame ∙ superblock_of_machine_frame s.top there.0 g in
      let frame : f % z ≡ g % z = sym (frame_of_machine_frame s.top here.0 f) ∙ ap (λ x. x % z) machine_frame ∙ frame_of_machine_frame s.top there.0 g in
      let slot : f / z ≡ g / z = st.apart (f / z) (g / z) here.0 here.1 (there.1 ∙ ap (λ m. Some m) (sym superblock)) in
      sym (div-add-mod' f z) ∙ ap (λ x. x * z + f % z) slot ∙ ap (λ x. g / z * z + x) frame ∙ div-add-mod' g z

  -- a slab of the tenant begins at frame f
  pub record IsSlabThere (f : ℕ) : Type 0 where
    pub number : ℕ
    pub machine_frame : ℕ
    pub cache : own.Cache
    pub slab : IsSlab r s t number f machine_frame cache

  pub some_slab : (f : ℕ) → has_slab s (machine_frame_of s.top r.slots t f) ≡ true → IsSlabThere f
  some_slab f has = go (machine_frame_of s.top r.slots t f) refl has
    where
      at_machine_frame : (n : ℕ) → machine_frame_of s.top r.slots t f ≡ Some n → (place : Option (ℕ × ℕ)) → place_at s.lists.places n ≡ place
          → is_some place ≡ true → IsSlabThere f
      at_machine_frame n under None placed e = absurd (false≢true e)
      at_machine_frame n under (Some p) placed e =
          let there = st.listed f n p.0 p.1 under placed in
          record { number = there.0; machine_frame = n; cache = there.1; slab = there.2 }

      go : (o : Option ℕ) → machine_frame_of s.top r.slots t f ≡ o → has_slab s o ≡ true → IsSlabThere f
      go None under e = absurd (false≢true e)
      go (Some n) under e = at_machine_frame n under (place_at s.lists.places n) refl e

  -- two slabs of the tenant that share a place begin at the same frame
  pub one_first : (place c f n c' f' n' : ℕ) (cache cache' : own.Cache) → IsSlab r s t c f n cache → IsSlab r s t c' f' n' cache'
      → is_inside place f cache ≡ true → is_inside place f' cache' ≡ true → f' ≡ f
  one_first place c f n c' f' n' cache cache' q q' i i' =
      st.sound.apart f' (layout_numbers cache').order f (layout_numbers cache).order (place / 4096)
      (st.stands c' f' n' cache' q').taken (st.stands c f n cache q).taken
      (in_block-true place (block f' (layout_numbers cache').order) i') (in_block-true place (block f (layout_numbers cache).order) i)

  -- the control record, the last 32 bytes of a slab's first frame, lies in the slab
  pub record_inside : (c f n j : ℕ) (cache : own.Cache) → IsSlab r s t c f n cache → j < 32 → is_inside (4096 * f + 4064 + j) f cache ≡ true
  record_inside c f n j cache q less =
      let here : (4096 * f + 4064 + j) / 4096 ≡ f =
      ap (λ x. x / 4096) (omega arith) ∙ div-mul-add f 4096 (4064 + j) (omega arith) in
      in_block-from (4096 * f + 4064 + j) (block f (layout_numbers cache).order)
      (subst (λ x. HasFrame (block f (layout_numbers cache).order) x) (sym here) (has_first (block f (layout_numbers cache).order)))

-- an object stays live, or stays free, if the stored state and the control record of its slab are unchanged
pub one_stays : (r r' : spaces.Content) (t : ℕ) (cache : own.Cache) (kept : Kept) (f i : ℕ)
    → (is_small (layout_numbers cache).chunk ≡ true → (j : ℕ) → j < 32 → record_byte r' t f j ≡ record_byte r t f j) → i < 256
    → is_live r' t cache kept f i ≡ is_live r t cache kept f i
one_stays r r' t cache kept f i same less = go (is_small (layout_numbers cache).chunk) refl
  where
    go : (small : Bool) → is_small (layout_numbers cache).chunk ≡ small
        → cond small (is_set (record_byte r' t f (i / 8)) (i % 8)) (is_set kept.outside i)
        ≡ cond small (is_set (record_byte r t f (i / 8)) (i % 8)) (is_set kept.outside i)
    go true e = ap (λ x. is_set x (i % 8)) (same e (i / 8) (omega arith))
    go false e = refl

pub all_stay : (r r' : spaces.Content) (t : ℕ) (cache : own.Cache) (kept : Kept) (f : ℕ) → (layout_numbers cache).count ≤ 256
    → (is_small (layout_numbers cache).chunk ≡ true → (j : ℕ) → j < 32 → record_byte r' t f j ≡ record_byte r t f j)
    → live_of r' t cache kept f ≡ live_of r t cache kept f
all_stay r r' t cache kept f few same =
    same_below 0 (layout_numbers cache).count (is_live r' t cache kept f) (is_live r t cache kept f)
    (λ i low high. one_stays r r' t cache kept f i same (omega arith))

-- if no slab begins at the frame, the parts show no slab there
pub no_slab_under : (r : spaces.Content) (s : Content) (t n : ℕ) (cache : own.Cache) (f : ℕ) (o : Option ℕ) → has_slab s o ≡ false → slab_under r s t n cache f o ≡ None
no_slab_under r s t n cache f None e = refl
no_slab_under r s t n cache f (Some machine_frame) e =
    ap (λ p. slab_placed (live_of r t cache (kept_at s.kept machine_frame) f) (kept_at s.kept machine_frame).colour f (is_of_cache n f p))
    (none_of (place_at s.lists.places machine_frame) e)

-- Let frame f have the same machine frame as before, and let a slab of the cache begin at f if and only if one did before. If
-- this slab has the same stored state and live objects as before, the parts show the same slab at f as before.
pub same_slab : (r r' : spaces.Content) (s s' : Content) (t c f : ℕ) (cache : own.Cache) → machine_frame_of s'.top r'.slots t f ≡ machine_frame_of s.top r.slots t f
    → ((n : ℕ) → machine_frame_of s.top r.slots t f ≡ Some n → is_of_cache (index_of_cache t c) f (place_at s'.lists.places n) ≡ is_of_cache (index_of_cache t c) f (place_at s.lists.places n))
    → ((n : ℕ) → machine_frame_of s.top r.slots t f ≡ Some n → is_of_cache (index_of_cache t c) f (place_at s.lists.places n) ≡ true
    → (kept_at s'.kept n ≡ kept_at s.kept n) × (live_of r' t cache (kept_at s.kept n) f ≡ live_of r t cache (kept_at s.kept n) f))
    → slab_at r' s' t c cache f ≡ slab_at r s t c cache f
same_slab r r' s s' t c f cache machine_frame listed stays =
    ap (slab_under r' s' t (index_of_cache t c) cache f) machine_frame ∙ under (machine_frame_of s.top r.slots t f) refl
  where
    placed : (n : ℕ) → machine_frame_of s.top r.slots t f ≡ Some n → (w : Bool) → is_of_cache (index_of_cache t c) f (place_at s.lists.places n) ≡ w
        → slab_placed (live_of r' t cache (kept_at s'.kept n) f) (kept_at s'.kept n).colour f w
        ≡ slab_placed (live_of r t cache (kept_at s.kept n) f) (kept_at s.kept n).colour f w
    placed n at false e = refl
    placed n at true e =
        let same = stays n at e in
        ap (λ kept. slab_placed (live_of r' t cache kept f) kept.colour f true) same.0
        ∙ ap (λ live. slab_placed live (kept_at s.kept n).colour f true) same.1

    under : (o : Option ℕ) → machine_frame_of s.top r.slots t f ≡ o
        → slab_under r' s' t (index_of_cache t c) cache f o ≡ slab_under r s t (index_of_cache t c) cache f o
    under None at = refl
    under (Some n) at =
        ap (slab_placed (live_of r' t cache (kept_at s'.kept n) f) (kept_at s'.kept n).colour f) (listed n at)
        ∙ placed n at (is_of_cache (index_of_cache t c) f (place_at s.lists.places n)) refl

module _ (r : spaces.Content) (b : buddies.Content) (s : Content) (t : ℕ) (st : IsSteady r b s t) where
  -- a slab has the same live objects as before if its stored state and its control record are unchanged
  pub live_stays : (r' : spaces.Content) (kept : Kept) (c f n : ℕ) (cache : own.Cache) → IsSlab r s t c f n cache
      → (is_small (layout_numbers cache).chunk ≡ true → (j : ℕ) → j < 32 → record_byte r' t f j ≡ record_byte r t f j)
      → live_of r' t cache kept f ≡ live_of r t cache kept f
  live_stays r' kept c f n cache q same = all_stay r r' t cache kept f ((st.stands c f n cache q).layout.fits 0).few same

module _ (r : spaces.Content) (s : Content) (t c : ℕ) (cache : own.Cache) (cached : cache_at s t c ≡ Some cache) where
  -- the slab at frame f, whose machine frame is n, as the parts show it
  abbrev pub shown : ℕ → ℕ → Slab
  shown f n = record { first = f; colour = (kept_at s.kept n).colour; live = live_of r t cache (kept_at s.kept n) f }

  pub record IsShown (f : ℕ) (z : Slab) : Type 0 where
    pub machine_frame : ℕ
    pub slab : IsSlab r s t c f machine_frame cache
    pub is : z ≡ shown f machine_frame

  shown_placed : (f n : ℕ) (z : Slab) (placed : Bool) → machine_frame_of s.top r.slots t f ≡ Some n
      → is_of_cache (index_of_cache t c) f (place_at s.lists.places n) ≡ placed
      → slab_placed (live_of r t cache (kept_at s.kept n) f) (kept_at s.kept n).colour f placed ≡ Some z → IsShown f z
  shown_placed f n z false under listed e = absurd (some_none (sym e))
  shown_placed f n z true under listed e = record {
    machine_frame = n;
    slab = record { cached = cached; under = under; listed = listed };
    is = sym (some_same e);
  }

  shown_under : (f : ℕ) (z : Slab) (machine_frame : Option ℕ) → machine_frame_of s.top r.slots t f ≡ machine_frame
      → slab_under r s t (index_of_cache t c) cache f machine_frame ≡ Some z → IsShown f z
  shown_under f z None under e = absurd (some_none (sym e))
  shown_under f z (Some n) under e =
      shown_placed f n z (is_of_cache (index_of_cache t c) f (place_at s.lists.places n)) under refl e

  -- each slab that the parts show is a slab of the tables
  pub shown_is : (f : ℕ) (z : Slab) → slab_at r s t c cache f ≡ Some z → IsShown f z
  shown_is f z e = shown_under f z (machine_frame_of s.top r.slots t f) refl e

  pub slab_shown : (f n : ℕ) → IsSlab r s t c f n cache → slab_at r s t c cache f ≡ Some (shown f n)
  slab_shown f n q =
      ap (slab_under r s t (index_of_cache t c) cache f) q.under
      ∙ ap (slab_placed (live_of r t cache (kept_at s.kept n) f) (kept_at s.kept n).colour f) q.listed

module _ (r : spaces.Content) (b : buddies.Content) (s : Content) (t : ℕ) (m : Machine) (h : ShowsMachine r b s t m) where
  -- each cache of the tables is also a cache of the machine, with the same layout
  pub record IsCacheShown (c : ℕ) (cache : own.Cache) : Type 0 where
    pub shown : Cache
    pub cached : cache_of m c ≡ Some shown
    pub same : without_slabs shown ≡ bare c cache
    pub layout : layout shown ≡ layout_numbers cache

  layout_of_bare : (c : ℕ) (x : Cache) (cache : own.Cache) → without_slabs x ≡ bare c cache → layout x ≡ layout_numbers cache
  layout_of_bare c x cache same = ap layout same

  pub cache_shown : (c : ℕ) (cache : own.Cache) → cache_at s t c ≡ Some cache → IsCacheShown c cache
  cache_shown c cache e =
      let there = mapped_from without_slabs (cache_of m c) (bare c cache) (h.caches c ∙ ap (option_map (bare c)) e) in
      record { shown = there.0; cached = there.1; same = there.2; layout = layout_of_bare c there.0 cache there.2 }

  -- conversely, each cache of the machine is also a cache of the tables, with the same layout
  pub record IsCacheKept (c : ℕ) (x : Cache) : Type 0 where
    pub kept : own.Cache
    pub cached : cache_at s t c ≡ Some kept
    pub same : without_slabs x ≡ bare c kept
    pub layout : layout x ≡ layout_numbers kept

  pub cache_kept : (c : ℕ) (x : Cache) → cache_of m c ≡ Some x → IsCacheKept c x
  cache_kept c x e =
      let there = mapped_from (bare c) (cache_at s t c) (without_slabs x) (sym (h.caches c) ∙ ap (option_map without_slabs) e) in
      record {
        kept = there.0;
        cached = there.1;
        same = sym there.2;
        layout = layout_of_bare c x there.0 (sym there.2);
      }

  -- each slab of the tables is also a slab of the machine
  pub record IsSlabIn (c f n : ℕ) (cache : own.Cache) (cached : cache_at s t c ≡ Some cache) : Type 0 where
    pub there : IsCacheShown c cache
    pub slab : slab_of there.shown f ≡ Some (shown r s t c cache cached f n)

  pub slab_in : (c f n : ℕ) (cache : own.Cache) (q : IsSlab r s t c f n cache) → IsSlabIn c f n cache q.cached
  slab_in c f n cache q =
      let there = cache_shown c cache q.cached in
      record {
        there = there;
        slab = h.slabs c f there.shown cache there.cached q.cached ∙ slab_shown r s t c cache q.cached f n q;
      }

  -- conversely, each slab of the machine is also a slab of the tables
  pub record IsSlabKept (c f : ℕ) (x : Cache) (y : Slab) : Type 0 where
    pub kept : own.Cache
    pub machine_frame : ℕ
    pub slab : IsSlab r s t c f machine_frame kept
    pub is : y ≡ shown r s t c kept slab.cached f machine_frame
    pub layout : layout x ≡ layout_numbers kept

  pub slab_of_machine : (c f : ℕ) (x : Cache) (y : Slab) → cache_of m c ≡ Some x → slab_of x f ≡ Some y → IsSlabKept c f x y
  slab_of_machine c f x y ex ey =
      let there = cache_kept c x ex in
      let is = shown_is r s t c there.kept there.cached f y (sym (h.slabs c f x there.kept ex there.cached) ∙ ey) in
      record { kept = there.kept; machine_frame = is.machine_frame; slab = is.slab; is = is.is; layout = there.layout }

-- all places of a slab lie in the slot of its first frame
pub slot_inside : (r : spaces.Content) (b : buddies.Content) (s : Content) (t place c f n : ℕ) (cache : own.Cache) → IsSteady r b s t
    → IsSlab r s t c f n cache → is_inside place f cache ≡ true → slot_of s.top place ≡ f / 2 ^ s.top
slot_inside r b s t place c f n cache st q inside =
    let k : ℕ = (layout_numbers cache).order in
    let placed = st.sound.placed f k (st.stands c f n cache q).taken in
    same_slot s.top k (place / 4096) f placed.0.0 (number_of_frame f k (place / 4096) placed.0.1 (in_block-true place (block f k) inside))

module _ (r : spaces.Content) (b : buddies.Content) (s : Content) (t : ℕ) (st : IsSteady r b s t) where
  -- each place of a slab lies in a held slot
  pub slot_held : (place c f n : ℕ) (cache : own.Cache) → IsSlab r s t c f n cache → is_inside place f cache ≡ true
      → is_some (spaces.superblock_at r.slots t (slot_of s.top place)) ≡ true
  slot_held place c f n cache q inside =
      ap (λ u. is_some (spaces.superblock_at r.slots t u)) (slot_inside r b s t place c f n cache st q inside)
      ∙ (st.sound.placed f (layout_numbers cache).order (st.stands c f n cache q).taken).1
