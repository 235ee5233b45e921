-- After a write over a range in reach, the parts show the old machine with these bytes written, and the parts still agree.
use Rattle.std.proofs.Common.{◌≡◌, ◌≢◌, ℕ, ◌+◌, ◌-◌, ◌*◌, ◌/◌, ◌%◌, ◌<◌, ◌≤◌, Bool, true, false, cond, List, Some, length, refl, sym, ap, ◌∙◌, subst, ⊎_elim, arith}
use Rattle.std.specs.Prelude.{IsSome, is_some, nat_lt, nat_le, ◌&&◌, slice_index, slice_get}
use Rattle.std.proofs.lemmas.Bool.{false≢true, cases_eq, ltb-true, leb-true, and_parts, false_from_ne_true}
use Rattle.std.proofs.lemmas.List.{set-get_or}
use Rattle.std.proofs.lemmas.Option.{slice_get-get_or}
use Rattle.model_core.specs.declared.limits.TheConstants.{MAX_CACHES}
use Rattle.model_core.specs.Layouts.{is_small}
use Rattle.model_core.specs.Machine.{Machine}
use Rattle.model_core.specs.Operations.{written}
use Rattle.klist_core.specs.Places.{place_at}
use Rattle.space_core.specs.Content as spaces
use Rattle.space_core.specs.Windows.{home_of, byte_at}
use Rattle.space_core.specs.Laws.{SpaceLaws}
use Rattle.buddy_core.specs.Content as buddies
use Rattle.slab_tables.specs.declared.cache.Cache as own
use Rattle.slab_tables.specs.Content.{Content, IsSlabs, kept_at, cache_in, cache_at, index_of_cache, layout_numbers}
use Rattle.machine_changes.specs.Records.{count_true}
use Rattle.machine_changes.specs.Shows.{machine_frame_of, byte_or_zero, record_byte, live_of, slab_at, is_inside, IsSlab, IsAgreed, ShowsMachine, Agree}
use Rattle.machine_changes.specs.Keeps.{Spares}
use Rattle.machine_changes.specs.Steady.{IsSteady}
use Rattle.machine_changes.proofs.SlabFacts.{one_slab, one_first, one_stays, all_stay, record_inside, same_slab}
use Rattle.machine_changes.proofs.LiveObjects.{fit_of}
use Rattle.machine_changes.proofs.SteadyParts.{slab_from}
use Rattle.machine_changes.specs.Pages.{IsInReach, stored, WrittenShows, WrittenAgrees}
use Rattle.machine_changes.proofs.PageReachHeld.{byte_of, page_outside, object_inside, reach_held, mapped_in_reach}
use Rattle.machine_changes.proofs.PageHoldings.{same_caches}

module _ (r : spaces.Content) (b : buddies.Content) (s : Content) (t place : ℕ) (new : List ℕ) (laws : SpaceLaws r) (a : Agree r b s)
    (st : IsSteady r b s t) (reach : IsInReach r b s t place (length new)) where
  abbrev r' : spaces.Content
  r' = stored t place new r

  abbrev in_range : ℕ → Bool
  in_range p = nat_le place p && nat_lt p (place + length new)

  home : IsSome (home_of r t place (length new))
  home = reach_held r b s t place (length new) a st reach

  byte_now : (p : ℕ) → byte_at r' t p ≡ cond (in_range p) (Some (slice_index new (p - place))) (byte_at r t p)
  byte_now p = laws.own_bytes.window t place (length new) new home refl p

  bounds : (p : ℕ) → in_range p ≡ true → (place ≤ p) × (p < place + length new)
  bounds p is =
      let parts = and_parts (nat_le place p) (nat_lt p (place + length new)) is in
      (leb-true place p parts.0, ltb-true p (place + length new) parts.1)

  -- no byte of a control record lies in the range
  record_out : (c f n j : ℕ) (cache : own.Cache) → IsSlab r s t c f n cache → is_small (layout_numbers cache).chunk ≡ true → j < 32
      → in_range (4096 * f + 4064 + j) ≡ true → ⊥
  record_out c f n j cache q small less is =
      ⊎_elim
      (λ page. false≢true (sym (page_outside r b s t place (length new) st page p low high c f n cache q) ∙ inside))
      (λ object.
      let o = object.0 in
      let x = byte_of r b s t place (length new) st o object.1 p low high in
      let first : o.first ≡ f =
      one_first r b s t st p c f n object.1.number o.first o.machine_frame cache o.cache q object.1.object.slab inside
      (object_inside r b s t place (length new) st o object.1 p low high) in
      let one = one_slab r s t c f n object.1.number o.first o.machine_frame cache o.cache q object.1.object.slab first in
      let below : p - 4096 * o.first < (layout_numbers cache).room = subst (λ z. p - 4096 * o.first < (layout_numbers z).room) one.same x.1.room in
      let room = ((fit_of r b s t c st f n cache q).small small).1 in
      absurd (omega arith))
      reach.inside
    where
      p : ℕ
      p = 4096 * f + 4064 + j

      low : place ≤ p
      low = (bounds p is).0

      high : p < place + length new
      high = (bounds p is).1

      inside : is_inside p f cache ≡ true
      inside = record_inside r b s t st c f n j cache q less

  record_off : (c f n j : ℕ) (cache : own.Cache) → IsSlab r s t c f n cache → is_small (layout_numbers cache).chunk ≡ true → j < 32
      → in_range (4096 * f + 4064 + j) ≡ false
  record_off c f n j cache q small less = false_from_ne_true (in_range (4096 * f + 4064 + j)) (record_out c f n j cache q small less)

  record_stays : (c f n j : ℕ) (cache : own.Cache) → IsSlab r s t c f n cache → is_small (layout_numbers cache).chunk ≡ true → j < 32
      → record_byte r' t f j ≡ record_byte r t f j
  record_stays c f n j cache q small less =
      let p : ℕ = 4096 * f + 4064 + j in
      ap byte_or_zero (byte_now p ∙ ap (λ v. cond v (Some (slice_index new (p - place))) (byte_at r t p)) (record_off c f n j cache q small less))

  live_stays : (c f n : ℕ) (cache : own.Cache) → IsSlab r s t c f n cache
      → live_of r' t cache (kept_at s.kept n) f ≡ live_of r t cache (kept_at s.kept n) f
  live_stays c f n cache q =
      all_stay r r' t cache (kept_at s.kept n) f ((st.stands c f n cache q).layout.fits 0).few (λ small j less. record_stays c f n j cache q small less)

  -- Slabs

  slab_was : (c f n : ℕ) (cache : own.Cache) → IsSlab r' s t c f n cache → IsSlab r s t c f n cache
  slab_was c f n cache q = record { cached = q.cached; under = q.under; listed = q.listed }

  slab_is : (c f n : ℕ) (cache : own.Cache) → IsSlab r s t c f n cache → IsSlab r' s t c f n cache
  slab_is c f n cache q = record { cached = q.cached; under = q.under; listed = q.listed }

  slab_same : (c f : ℕ) (cache : own.Cache) → cache_at s t c ≡ Some cache → slab_at r' s t c cache f ≡ slab_at r s t c cache f
  slab_same c f cache cached =
      same_slab r r' s s t c f cache refl (λ n under. refl)
      (λ n under listed. (refl, live_stays c f n cache (record { cached = cached; under = under; listed = listed })))

  -- Bytes

  got : (p : ℕ) → in_range p ≡ true → slice_get new (p - place) ≡ Some (slice_index new (p - place))
  got p is = let there = bounds p is in slice_get-get_or new (p - place) 0 (omega (arith, there.0, there.1))

  module _ (m : Machine) (h : ShowsMachine r b s t m) where
    mapped : (p : ℕ) → in_range p ≡ true → is_some (m.bytes p) ≡ true
    mapped p is =
        let there = bounds p is in
        mapped_in_reach r b s t place (length new) st reach m h p there.0 there.1

    some_written : (p : ℕ) → is_some (written place new m.bytes p) ≡ is_some (m.bytes p)
    some_written p = go (in_range p) refl
      where
        go : (v : Bool) → in_range p ≡ v → is_some (cond v (slice_get new (p - place)) (m.bytes p)) ≡ is_some (m.bytes p)
        go true is = ap is_some (got p is) ∙ sym (mapped p is)
        go false is = refl

    byte_told : (p byte : ℕ) → written place new m.bytes p ≡ Some byte → byte_at r' t p ≡ Some byte
    byte_told p byte e = byte_now p ∙ go (in_range p) refl e
      where
        go : (v : Bool) → in_range p ≡ v → cond v (slice_get new (p - place)) (m.bytes p) ≡ Some byte
            → cond v (Some (slice_index new (p - place))) (byte_at r t p) ≡ Some byte
        go true is e = sym (got p is) ∙ e
        go false is e = h.bytes p byte e

    shows : ShowsMachine r' b s t (record m { bytes = written place new m.bytes })
    shows = record {
      slots_rise = h.slots_rise;
      slots = h.slots;
      blocks_rise = h.blocks_rise;
      blocks = h.blocks;
      caches_rise = h.caches_rise;
      caches = h.caches;
      slabs_rise = h.slabs_rise;
      slabs = λ c f x cache ex cached. h.slabs c f x cache ex cached ∙ sym (slab_same c f cache cached);
      mapped = λ p out. some_written p ∙ h.mapped p (λ c f n cache q. out c f n cache (slab_is c f n cache q));
      in_slab = λ p c f n cache q inside. some_written p ∙ h.in_slab p c f n cache (slab_was c f n cache q) inside;
      bytes = byte_told;
    }

  -- The agreement of the parts after the write

  -- if the parts agree on a slab of small objects, of any tenant, the control record of the slab is unchanged
  agreed_stays : (machine_frame head key : ℕ) (cache : own.Cache) → place_at s.lists.places machine_frame ≡ Some (head, key) → cache_in s.caches (head / 3) ≡ Some cache
      → IsAgreed r b s machine_frame head key cache → (u : ℕ) → head / 3 / MAX_CACHES ≡ u
      → is_small (layout_numbers cache).chunk ≡ true → (j : ℕ) → j < 32 → record_byte r' u key j ≡ record_byte r u key j
  agreed_stays machine_frame head key cache placed cached x u is small j less =
      ⊎_elim
      (λ (same : u ≡ t).
      let tenant : head / 3 / MAX_CACHES ≡ t = is ∙ same in
      let index : head / 3 ≡ index_of_cache t (head / 3 % MAX_CACHES) = omega arith in
      let q : IsSlab r s t (head / 3 % MAX_CACHES) key machine_frame cache =
      slab_from r s t (head / 3 % MAX_CACHES) key machine_frame head cache (omega arith) index cached
      (subst (λ v. machine_frame_of s.top r.slots v key ≡ Some machine_frame) tenant x.under) placed in
      subst (λ v. record_byte r' v key j ≡ record_byte r v key j) (sym same)
      (record_stays (head / 3 % MAX_CACHES) key machine_frame j cache q small less))
      (λ (other : u ≢ t). ap byte_or_zero ((laws.others.window t place (length new) new u other).bytes (4096 * key + 4064 + j)))
      (cases_eq u t)

  agreed_now : (machine_frame head key : ℕ) (cache : own.Cache) → (layout_numbers cache).count ≤ 256 → place_at s.lists.places machine_frame ≡ Some (head, key)
      → cache_in s.caches (head / 3) ≡ Some cache → IsAgreed r b s machine_frame head key cache → IsAgreed r' b s machine_frame head key cache
  agreed_now machine_frame head key cache few placed cached x =
      let u : ℕ = head / 3 / MAX_CACHES in
      let same = agreed_stays machine_frame head key cache placed cached x u refl in
      record {
        under = x.under;
        taken = x.taken;
        counted = x.counted ∙ ap count_true (sym (all_stay r r' u cache (kept_at s.kept machine_frame) key few same));
        rest = λ i low high. one_stays r r' u cache (kept_at s.kept machine_frame) key i same high ∙ x.rest i low high;
      }

  agree_now : IsSlabs s → Agree r' b s
  agree_now w = record {
    order = a.order;
    unit = a.unit;
    superblocks = a.superblocks;
    machine_frames = a.machine_frames;
    rows = a.rows;
    tenants = a.tenants;
    slots = a.slots;
    slabs = λ machine_frame head key cache placed cached.
        agreed_now machine_frame head key cache ((w.fits (head / 3) cache cached).layout.fits 0).few placed cached (a.slabs machine_frame head key cache placed cached);
  }

  spares : Spares t r r' b b s s
  spares = record {
    others = λ u other. record { space = laws.others.window t place (length new) new u other; buddy = refl; slabs = same_caches u r s };
    space = refl;
    buddy = ap (λ ts. record b { tenants = ts }) (sym (set-get_or b.tenants t buddies.no_tenant));
    spare = laws.spare.window t place (length new) new;
  }

pub written_shows : WrittenShows
written_shows r b s t place new m laws a st reach h = shows r b s t place new laws a st reach m h

pub written_agrees : WrittenAgrees
written_agrees r b s t place new w laws a st reach = record {
  live = live_stays r b s t place new laws a st reach;
  agree = agree_now r b s t place new laws a st reach w;
  spares = spares r b s t place new laws a st reach;
}
