-- Facts about a tenant's slab that hold if the parts agree: its list, its block, its layout and its live objects.
use Rattle.std.proofs.Common.{◌≡◌, ℕ, ◌+◌, ◌*◌, ◌/◌, ◌^◌, ◌<◌, ◌≤◌, false, Some, length, sym, ap, ◌∙◌, subst, arith}
use Rattle.std.proofs.lemmas.Nat.{pow_pos}
use Rattle.std.proofs.Math.Nat.{add-mul, lt-div-mul-add}
use Rattle.model_core.specs.declared.limits.TheConstants.{FRAME_BYTES, MAX_CACHES, WIDE_FRAMES}
use Rattle.model_core.specs.Layouts.{IsLayout, is_small}
use Rattle.layout_core.proofs.SlabOrders.{few_objects}
use Rattle.klist_core.specs.Places.{place_at}
use Rattle.space_core.specs.Content as spaces
use Rattle.space_core.specs.Laws.{SpaceLaws}
use Rattle.space_core.proofs.PlacesEnd.{slot_end}
use Rattle.buddy_core.specs.Content as buddies
use Rattle.slab_tables.specs.declared.cache.Cache as own
use Rattle.slab_tables.specs.Content.{Content, IsSlabs, IsListed, kept_at, cache_in, cache_at, index_of_cache, layout_numbers}
use Rattle.machine_changes.specs.Records.{count_true}
use Rattle.machine_changes.specs.Shows.{live_of, is_live, IsSlab, Agree}
use Rattle.machine_changes.proofs.Lookups.{some_same}
use Rattle.machine_changes.proofs.SlabFacts.{under_is}
use Rattle.machine_changes.proofs.SteadyParts.{within, in_table, placed_as, agreed}

-- the facts about the slab of cache c of tenant t that begins at frame f, whose machine frame is n
pub record IsHeld (r : spaces.Content) (b : buddies.Content) (s : Content) (t c f n : ℕ) (cache : own.Cache) : Type 0 where
  pub head : ℕ
  pub index : head / 3 ≡ index_of_cache t c
  pub place : place_at s.lists.places n ≡ Some (head, f)
  pub below : c < MAX_CACHES
  pub cached : cache_in s.caches (index_of_cache t c) ≡ Some cache
  pub taken : buddies.taken_of (buddies.holding_of t b) f ≡ Some (layout_numbers cache).order
  pub layout : IsLayout cache.layout.size cache.layout.align (layout_numbers cache)
  pub listed : IsListed (kept_at s.kept n) cache head
  pub counted : (kept_at s.kept n).live ≡ count_true (live_of r t cache (kept_at s.kept n) f)
  pub rest : (i : ℕ) → (layout_numbers cache).count ≤ i → i < 256 → is_live r t cache (kept_at s.kept n) f i ≡ false

pub held : (r : spaces.Content) (b : buddies.Content) (s : Content) (t c f n : ℕ) (cache : own.Cache) → IsSlabs s → Agree r b s → IsSlab r s t c f n cache
    → IsHeld r b s t c f n cache
held r b s t c f n cache w a q =
    let p = placed_as r s t c f n cache q in
    let x = agreed r b s w a t c f n cache q p in
    let kept = w.standing n p.head f p.place in
    record {
      head = p.head;
      index = p.index;
      place = p.place;
      below = p.number;
      cached = sym (ap (cache_in s.caches) p.index) ∙ p.cached;
      taken = subst (λ u. buddies.taken_of (buddies.holding_of u b) f ≡ Some (layout_numbers cache).order) p.tenant x.taken;
      layout = (w.fits (p.head / 3) cache p.cached).layout;
      listed = subst (λ (y : own.Cache). IsListed (kept_at s.kept n) y p.head) (some_same (sym kept.1 ∙ p.cached)) kept.2;
      counted = subst (λ u. (kept_at s.kept n).live ≡ count_true (live_of r u cache (kept_at s.kept n) f)) p.tenant x.counted;
      rest = subst (λ u. (i : ℕ) → (layout_numbers cache).count ≤ i → i < 256 → is_live r u cache (kept_at s.kept n) f i ≡ false) p.tenant x.rest;
    }

-- the layout is valid, and a slab has at most 256 objects, or at most 16 if they are large
pub record IsInTables (cache : own.Cache) : Type 0 where
  pub layout : IsLayout cache.layout.size cache.layout.align (layout_numbers cache)
  pub few : (layout_numbers cache).count ≤ 256
  pub few_large : is_small (layout_numbers cache).chunk ≡ false → (layout_numbers cache).count ≤ 16

pub in_tables : (s : Content) (t c : ℕ) (cache : own.Cache) → IsSlabs s → cache_at s t c ≡ Some cache → IsInTables cache
in_tables s t c cache w cached =
    let fit = w.fits (index_of_cache t c) cache (in_table s t c cache cached).cached in
    record { layout = fit.layout; few = (fit.layout.fits 0).few; few_large = (few_objects cache.layout.size cache.layout.align fit.size fit.align).1 }

module _ {r : spaces.Content} {s : Content} {t c f n : ℕ} {cache : own.Cache} (q : IsSlab r s t c f n cache) where
  -- `IsInTables` holds for the slab's cache
  pub slab_cache : IsSlabs s → IsInTables cache
  slab_cache w = in_tables s t c cache w q.cached

  -- the slab's machine frame is below the number of machine frames
  pub machine_frame_within : n < length s.lists.places
  machine_frame_within = let p = placed_as r s t c f n cache q in within s.lists.places n (p.head, f) p.place

  -- the slab's first frame is below WIDE_FRAMES, so all its places fit in 32 bits
  pub first_small : SpaceLaws r → r.unit ≡ FRAME_BYTES * 2 ^ s.top → f < WIDE_FRAMES
  first_small laws unit =
      let under = under_is s.top f n (spaces.superblock_at r.slots t (f / 2 ^ s.top)) q.under in
      let end : (f / 2 ^ s.top + 1) * r.unit ≤ FRAME_BYTES * WIDE_FRAMES = slot_end laws.facts t (f / 2 ^ s.top) under.0 under.1 in
      let whole : (f / 2 ^ s.top + 1) * r.unit ≡ (f / 2 ^ s.top + 1) * (FRAME_BYTES * 2 ^ s.top) = ap (λ x. (f / 2 ^ s.top + 1) * x) unit in
      let below : f < f / 2 ^ s.top * 2 ^ s.top + 2 ^ s.top = lt-div-mul-add (pow_pos s.top) in
      omega (arith, end, whole, below, add-mul (f / 2 ^ s.top) 1 (2 ^ s.top))
