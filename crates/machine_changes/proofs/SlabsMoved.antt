-- If a tenant's slabs move to other machine frames with their stored states, and its bytes stay the same, its machine is
-- unchanged.
use Rattle.std.proofs.Common.{◌≡◌, ℕ, ◌+◌, ◌-◌, ◌*◌, cond, Some, None, refl, sym, ap, ◌∙◌, ◌/◌, ◌%◌}
use Rattle.std.specs.Prelude.{Option, option_map, is_some, ⊤}
use Rattle.model_core.specs.Layouts.{in_object, is_small}
use Rattle.model_core.specs.Machine.{Machine, holds, slot_of}
use Rattle.klist_core.specs.Places.{place_at}
use Rattle.space_core.specs.Content as spaces
use Rattle.space_core.specs.Windows.{byte_at}
use Rattle.buddy_core.specs.Content as buddies
use Rattle.slab_tables.specs.declared.cache.Cache as own
use Rattle.slab_tables.specs.declared.cache.Kept.{Kept}
use Rattle.slab_tables.specs.Content.{Content, kept_at, cache_at, index_of_cache, layout_numbers}
use Rattle.machine_changes.specs.Records.{is_set}
use Rattle.machine_changes.specs.Shows.{machine_frame_of, byte_or_zero, live_of, is_of_cache, slab_placed, slab_under, slab_at, has_slab, bare, IsSlab, ShowsMachine, is_live, record_byte}
use Rattle.machine_changes.proofs.Lookups.{some_none, some_same}
use Rattle.machine_changes.proofs.SlabFacts.{same_below}

-- a slab has the same live objects as before if its stored state and its control record are unchanged
live_same : (r r' : spaces.Content) (t : ℕ) (cache : own.Cache) (kept : Kept) (f : ℕ)
    → ((j : ℕ) → record_byte r' t f j ≡ record_byte r t f j) → live_of r' t cache kept f ≡ live_of r t cache kept f
live_same r r' t cache kept f same =
    same_below 0 (layout_numbers cache).count (is_live r' t cache kept f) (is_live r t cache kept f)
    (λ i low high. ap (λ x. cond (is_small (layout_numbers cache).chunk) (is_set x (i % 8)) (is_set kept.outside i)) (same (i / 8)))

-- machine frame n' now has the slab and the stored state that machine frame n had before
pub record IsSameSlab (s s' : Content) (n n' : ℕ) : Type 0 where
  pub place : place_at s'.lists.places n' ≡ place_at s.lists.places n
  pub kept : kept_at s'.kept n' ≡ kept_at s.kept n

-- the new machine frame has the slab and the stored state that the old machine frame had, or both machine frames are `None`
abbrev pub SameSlab : Content → Content → Option ℕ → Option ℕ → Type 0
SameSlab s s' None None = ⊤
SameSlab s s' None (Some n') = ⊥
SameSlab s s' (Some n) None = ⊥
SameSlab s s' (Some n) (Some n') = IsSameSlab s s' n n'

pub record IsCarried (r r' : spaces.Content) (b b' : buddies.Content) (s s' : Content) (t : ℕ) : Type 0 where
  pub top : s'.top ≡ s.top
  pub held : (v : ℕ) → is_some (spaces.superblock_at r'.slots t v) ≡ is_some (spaces.superblock_at r.slots t v)
  pub bytes : (place : ℕ) → byte_at r' t place ≡ byte_at r t place
  pub taken : (f : ℕ) → buddies.taken_of (buddies.holding_of t b') f ≡ buddies.taken_of (buddies.holding_of t b) f
  pub caches : (c : ℕ) → cache_at s' t c ≡ cache_at s t c
  pub machine_frames : (f : ℕ) → SameSlab s s' (machine_frame_of s.top r.slots t f) (machine_frame_of s'.top r'.slots t f)

module _ (r r' : spaces.Content) (b b' : buddies.Content) (s s' : Content) (t : ℕ) (k : IsCarried r r' b b' s s' t) where
  has_under : (o o' : Option ℕ) → SameSlab s s' o o' → has_slab s' o' ≡ has_slab s o
  has_under None None same = refl
  has_under None (Some n') same = absurd same
  has_under (Some n) None same = absurd same
  has_under (Some n) (Some n') same = ap is_some same.place

  has_same : (f : ℕ) → has_slab s' (machine_frame_of s'.top r'.slots t f) ≡ has_slab s (machine_frame_of s.top r.slots t f)
  has_same f = has_under (machine_frame_of s.top r.slots t f) (machine_frame_of s'.top r'.slots t f) (k.machine_frames f)

  slab_same_under : (n f : ℕ) (cache : own.Cache) (o o' : Option ℕ) → SameSlab s s' o o' → slab_under r' s' t n cache f o' ≡ slab_under r s t n cache f o
  slab_same_under n f cache None None same = refl
  slab_same_under n f cache None (Some x') same = absurd same
  slab_same_under n f cache (Some x) None same = absurd same
  slab_same_under n f cache (Some x) (Some x') same =
      ap (λ place. slab_placed (live_of r' t cache (kept_at s'.kept x') f) (kept_at s'.kept x').colour f (is_of_cache n f place)) same.place
      ∙ ap (λ kept. slab_placed (live_of r' t cache kept f) kept.colour f (is_of_cache n f (place_at s.lists.places x))) same.kept
      ∙ ap (λ live. slab_placed live (kept_at s.kept x).colour f (is_of_cache n f (place_at s.lists.places x)))
      (live_same r r' t cache (kept_at s.kept x) f (λ j. ap byte_or_zero (k.bytes (4096 * f + 4064 + j))))

  slab_same : (c f : ℕ) (cache : own.Cache) → slab_at r' s' t c cache f ≡ slab_at r s t c cache f
  slab_same c f cache = slab_same_under (index_of_cache t c) f cache (machine_frame_of s.top r.slots t f) (machine_frame_of s'.top r'.slots t f) (k.machine_frames f)

  -- the slab that is now at machine frame n' was at `machine_frame` before
  record WasSlab (c f n' : ℕ) (cache : own.Cache) : Type 0 where
    pub machine_frame : ℕ
    pub slab : IsSlab r s t c f machine_frame cache
    pub same : IsSameSlab s s' machine_frame n'

  slab_was : (c f n' : ℕ) (cache : own.Cache) → IsSlab r' s' t c f n' cache → WasSlab c f n' cache
  slab_was c f n' cache q = go (machine_frame_of s.top r.slots t f) (machine_frame_of s'.top r'.slots t f) refl q.under (k.machine_frames f)
    where
      here : (n x' : ℕ) → machine_frame_of s.top r.slots t f ≡ Some n → x' ≡ n' → IsSameSlab s s' n x' → WasSlab c f n' cache
      here n x' under is same =
          let place : place_at s'.lists.places n' ≡ place_at s.lists.places n = ap (place_at s'.lists.places) (sym is) ∙ same.place in
          record {
            machine_frame = n;
            slab = record { cached = sym (k.caches c) ∙ q.cached; under = under; listed = ap (is_of_cache (index_of_cache t c) f) (sym place) ∙ q.listed };
            same = record { place = place; kept = ap (kept_at s'.kept) (sym is) ∙ same.kept };
          }

      go : (o o' : Option ℕ) → machine_frame_of s.top r.slots t f ≡ o → o' ≡ Some n' → SameSlab s s' o o' → WasSlab c f n' cache
      go None None under is same = absurd (some_none (sym is))
      go None (Some x') under is same = absurd same
      go (Some n) None under is same = absurd same
      go (Some n) (Some x') under is same = here n x' under (some_same is) same

  -- conversely, each slab that existed before still exists
  slab_is : (c f n : ℕ) (cache : own.Cache) → IsSlab r s t c f n cache → (n' : ℕ) × IsSlab r' s' t c f n' cache
  slab_is c f n cache q = go (machine_frame_of s.top r.slots t f) (machine_frame_of s'.top r'.slots t f) q.under refl (k.machine_frames f)
    where
      here : (x n' : ℕ) → x ≡ n → machine_frame_of s'.top r'.slots t f ≡ Some n' → IsSameSlab s s' x n' → IsSlab r' s' t c f n' cache
      here x n' is under same = record {
        cached = k.caches c ∙ q.cached;
        under = under;
        listed = ap (is_of_cache (index_of_cache t c) f) (same.place ∙ ap (place_at s.lists.places) is) ∙ q.listed;
      }

      go : (o o' : Option ℕ) → o ≡ Some n → machine_frame_of s'.top r'.slots t f ≡ o' → SameSlab s s' o o' → (n' : ℕ) × IsSlab r' s' t c f n' cache
      go None None is under same = absurd (some_none (sym is))
      go None (Some n') is under same = absurd same
      go (Some x) None is under same = absurd same
      go (Some x) (Some n') is under same = (n', here x n' (some_same is) under same)

  pub carried_shows : (m : Machine) → ShowsMachine r b s t m → ShowsMachine r' b' s' t m
  carried_shows m h = record {
    slots_rise = h.slots_rise;
    slots = λ u. h.slots u ∙ sym (k.held u);
    blocks_rise = h.blocks_rise;
    blocks = λ f.
        h.blocks f
        ∙ ap (λ has. cond has None (buddies.taken_of (buddies.holding_of t b) f)) (sym (has_same f))
        ∙ ap (cond (has_slab s' (machine_frame_of s'.top r'.slots t f)) None) (sym (k.taken f));
    caches_rise = h.caches_rise;
    caches = λ c. h.caches c ∙ ap (option_map (bare c)) (sym (k.caches c));
    slabs_rise = h.slabs_rise;
    slabs = λ c f x cache ex cached. h.slabs c f x cache ex (sym (k.caches c) ∙ cached) ∙ sym (slab_same c f cache);
    mapped = λ place out.
        h.mapped place (λ c f n cache q. let is = slab_is c f n cache q in out c f is.0 cache is.1)
        ∙ ap (λ top. holds m (slot_of top place)) (sym k.top);
    in_slab = λ place c f n cache q inside.
        let was = slab_was c f n cache q in
        h.in_slab place c f was.machine_frame cache was.slab inside
        ∙ ap (λ kept. in_object (layout_numbers cache) cache.layout.size kept.colour (place - 4096 * f)) (sym was.same.kept);
    bytes = λ place byte e. k.bytes place ∙ h.bytes place byte e;
  }
