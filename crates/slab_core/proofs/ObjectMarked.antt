-- If one object is marked and its slab's number of live objects is updated, the parts agree, and nothing else changes.
use Rattle.std.proofs.Common.{◌≡◌, ◌≢◌, ℕ, ◌+◌, ◌*◌, ◌/◌, ◌%◌, ◌<◌, ◌≤◌, Bool, true, false, not, List, Some, None, length, get_or, set, refl, sym, ap, ◌∙◌, subst, inl, inr, arith}
use Rattle.std.specs.Prelude.{◌==◌, ◌&&◌, if◌then◌else◌}
use Rattle.std.proofs.lemmas.Bool.{cases_eq}
use Rattle.std.proofs.lemmas.List.{length-set, get_or-set_same, get_or-set_other, set-get_or}
use Rattle.model_core.specs.declared.limits.TheConstants.{MAX_CACHES}
use Rattle.model_core.specs.Layouts.{is_small}
use Rattle.klist_core.specs.Places.{place_at}
use Rattle.space_core.specs.Content as spaces
use Rattle.space_core.specs.Laws.{SpaceLaws}
use Rattle.buddy_core.specs.Content as buddies
use Rattle.slab_tables.specs.declared.cache.Cache as own
use Rattle.slab_tables.specs.declared.cache.Kept.{Kept}
use Rattle.slab_tables.specs.Content.{Content, IsSlabs, IsPlacedIn, blank, kept_at, cache_in, index_of_cache, head_of, layout_numbers, kind_of}
use Rattle.slab_tables.specs.Changes.{with_count}
use Rattle.slab_tables.proofs.TableReads.{kind_below, head_parts, same_place}
use Rattle.machine_changes.specs.Records.{is_set, count_true}
use Rattle.machine_changes.specs.Shows.{machine_frame_of, byte_or_zero, is_live, live_of, is_of_cache, IsSlab, IsAgreed, Agree}
use Rattle.machine_changes.specs.Changes.{found, IsMarked}
use Rattle.machine_changes.proofs.Lookups.{some_same}
use Rattle.machine_changes.proofs.ObjectFlags.{length_flags, flag_at, count_few}
use Rattle.slab_core.specs.Objects.{IsTurned, IsRecounted}
use Rattle.slab_core.proofs.LocalChange.{IsLocal, agreed_still, spares_of, agree_of}
use Rattle.slab_core.proofs.RecordBits.{flags_changed, count_cleared, count_set}
use Rattle.slab_core.proofs.SlabFacts.{IsHeld, held, machine_frame_within}

-- `count` is `before` + 1 if `live` is true, and `before` - 1 if `live` is false
abbrev pub IsCountOf : Bool → ℕ → ℕ → Type 0
IsCountOf live before count = (live ≡ true → count ≡ before + 1) × (live ≡ false → count + 1 ≡ before)

module _ {r : spaces.Content} {b : buddies.Content} {s : Content} {t c f n i : ℕ} {cache : own.Cache} (w : IsSlabs s) (a : Agree r b s) (q : IsSlab r s t c f n cache)
    (less : i < (layout_numbers cache).count) (v : Bool) (was : is_live r t cache (kept_at s.kept n) f i ≡ not v) where
  h : IsHeld r b s t c f n cache
  h = held r b s t c f n cache w a q

  abbrev flags_before : List Bool
  flags_before = live_of r t cache (kept_at s.kept n) f

  long : length flags_before ≡ (layout_numbers cache).count
  long = length_flags 0 (layout_numbers cache).count (is_live r t cache (kept_at s.kept n) f)

  zero_more : 0 + i ≡ i
  zero_more = omega arith

  flag_was : get_or flags_before i false ≡ not v
  flag_was = flag_at (layout_numbers cache).count i (is_live r t cache (kept_at s.kept n) f) false less ∙ was

  -- the new number of live objects is the number of set flags after the change
  count_marked : (count : ℕ) → IsCountOf v (kept_at s.kept n).live count → count ≡ count_true (set flags_before i v)
  count_marked count is = by_case v flag_was is
    where
      by_case : (u : Bool) → get_or flags_before i false ≡ not u → IsCountOf u (kept_at s.kept n).live count → count ≡ count_true (set flags_before i u)
      by_case true flag e = let m = count_set flags_before i (omega (arith, long)) flag in let d = e.0 refl in omega (arith, h.counted)
      by_case false flag e = let m = count_cleared flags_before i (omega (arith, long)) flag in let d = e.1 refl in omega (arith, h.counted)

  -- if the object was live, the slab had at least 1 live object
  pub some_live : v ≡ false → 1 ≤ (kept_at s.kept n).live
  some_live e =
      let m = count_cleared flags_before i (omega (arith, long)) (flag_was ∙ ap not e) in omega (arith, h.counted)

  pub count_below : (count : ℕ) → IsCountOf v (kept_at s.kept n).live count → count ≤ (layout_numbers cache).count
  count_below count is = omega (arith, count_marked count is, count_few (set flags_before i v), length-set flags_before i v, long)

  pub is_placed : IsPlacedIn s t c f n
  is_placed =
      let index = h.index in
      let whole : h.head ≡ head_of t c (h.head % 3) = omega arith in
      record { kind = h.head % 3; few = omega arith; placed = h.place ∙ ap (λ (x : ℕ). Some (x, f)) whole }

  -- no other machine frame has a slab of the cache with the same first frame
  pub alone : (m : ℕ) → IsPlacedIn s t c f m → m ≡ n
  alone m p =
      let few = p.few in
      let index : head_of t c p.kind / 3 ≡ index_of_cache t c = (head_parts t c p.kind p.few).0 in
      let below = h.below in
      let tenant : head_of t c p.kind / 3 / MAX_CACHES ≡ t = omega arith in
      let x = a.slabs m (head_of t c p.kind) f cache p.placed (ap (cache_in s.caches) index ∙ h.cached) in
      some_same (sym (ap (λ u. machine_frame_of s.top r.slots u f) (sym tenant) ∙ x.under) ∙ q.under)

  module _ (laws : SpaceLaws r) (banks : List (List ℕ)) (ks : List Kept) (count : ℕ) (is_count : IsCountOf v (kept_at s.kept n).live count)
      (k : IsTurned r (record r { banks = banks }) s (record s { kept = ks }) t (found cache f n i)) where
    abbrev r' : spaces.Content
    r' = record r { banks = banks }

    abbrev s' : Content
    s' = with_count (record s { kept = ks }) t c cache f n count

    abbrev kind : ℕ
    kind = kind_of (layout_numbers cache).count count

    abbrev head_now : ℕ
    head_now = head_of t c kind

    index_now : head_now / 3 ≡ index_of_cache t c
    index_now = (head_parts t c kind (kind_below (layout_numbers cache).count count)).0

    tenant_now : head_now / 3 / MAX_CACHES ≡ t
    tenant_now = let e = index_now in let below = h.below in omega arith

    place_now : place_at s'.lists.places n ≡ Some (head_now, f)
    place_now = get_or-set_same s.lists.places n (Some (head_now, f)) None (machine_frame_within q)

    place_other : (m : ℕ) → m ≢ n → place_at s'.lists.places m ≡ place_at s.lists.places m
    place_other m other = get_or-set_other s.lists.places n m (Some (head_now, f)) None other

    kept_now : kept_at s'.kept n ≡ record (kept_at ks n) { live = count }
    kept_now = get_or-set_same ks n (record (kept_at ks n) { live = count }) blank (omega (arith, machine_frame_within q, w.paired, k.machine_frames))

    kept_other : (m : ℕ) → m ≢ n → kept_at s'.kept m ≡ kept_at s.kept m
    kept_other m other = get_or-set_other ks n m (record (kept_at ks n) { live = count }) blank other ∙ k.kept m other

    is_live_now : (j : ℕ) → is_live r' t cache (kept_at s'.kept n) f j ≡ is_live r' t cache (kept_at ks n) f j
    is_live_now j = ap (λ (x : Kept). is_live r' t cache x f j) kept_now

    not_not : (u : Bool) → not (not u) ≡ u
    not_not true = refl
    not_not false = refl

    few : (layout_numbers cache).count ≤ 256
    few = (h.layout.fits 0).few

    flags_now : live_of r' t cache (kept_at s'.kept n) f ≡ set flags_before i v
    flags_now =
        flags_changed 0 (layout_numbers cache).count i (is_live r t cache (kept_at s.kept n) f) (is_live r' t cache (kept_at s'.kept n) f) v less
        (ap (is_live r' t cache (kept_at s'.kept n) f) zero_more ∙ (is_live_now i ∙ (k.turned ∙ (ap not was ∙ not_not v))))
        (λ j low high other. is_live_now j ∙ k.stay j (let x = few in omega arith) (λ e. other (omega arith)))

    marked : IsMarked r r' s s' t c (found cache f n i) v
    marked = record {
      top = refl;
      slots = λ u. refl;
      caches = λ d. refl;
      listed = λ m g. ap (is_of_cache m g) place_now
          ∙ (ap (λ (x : ℕ). (x == m) && (f == g)) (index_now ∙ sym h.index) ∙ ap (is_of_cache m g) (sym h.place));
      lists = place_other;
      kept = kept_other;
      colour = ap (λ (x : Kept). x.colour) kept_now ∙ k.colour;
      live = flags_now;
      bytes = k.bytes;
      large = k.large;
    }

    -- the parts agree on the slab of the marked object
    own_slab : IsAgreed r' b s' n head_now f cache
    own_slab = record {
      under = ap (λ u. machine_frame_of s.top r.slots u f) tenant_now ∙ q.under;
      taken = ap (λ u. buddies.taken_of (buddies.holding_of u b) f) tenant_now ∙ h.taken;
      counted = subst (λ u. (kept_at s'.kept n).live ≡ count_true (live_of r' u cache (kept_at s'.kept n) f)) (sym tenant_now)
          (ap (λ (x : Kept). x.live) kept_now ∙ (count_marked count is_count ∙ ap count_true (sym flags_now)));
      rest = subst (λ u. (j : ℕ) → (layout_numbers cache).count ≤ j → j < 256 → is_live r' u cache (kept_at s'.kept n) f j ≡ false) (sym tenant_now)
          (λ j high low. is_live_now j ∙ (k.stay j low (λ e. omega arith) ∙ h.rest j high low));
    }

    local : IsLocal r r' b b s s' t f n
    local = record {
      space = refl;
      bytes = k.others;
      spare = k.spare;
      buddy = ap (λ (ts : List buddies.Holding). record b { tenants = ts }) (sym (set-get_or b.tenants t buddies.no_tenant));
      top = refl;
      under = q.under;
      caches = λ m other. refl;
      lists = place_other;
      kept = kept_other;
    }

    -- the parts still agree on each other slab of the tenant
    other_slab : (machine_frame head key : ℕ) (cache' : own.Cache) → machine_frame ≢ n → place_at s.lists.places machine_frame ≡ Some (head, key) → cache_in s.caches (head / 3) ≡ Some cache'
        → head / 3 / MAX_CACHES ≡ t → IsAgreed r' b s' machine_frame head key cache'
    other_slab machine_frame head key cache' other place cached tenant =
        let x = a.slabs machine_frame head key cache' place cached in
        let under : machine_frame_of s.top r.slots t key ≡ Some machine_frame = subst (λ u. machine_frame_of s.top r.slots u key ≡ Some machine_frame) tenant x.under in
        let differ : key ≢ f = λ e. other (some_same (sym under ∙ (ap (λ (g : ℕ). machine_frame_of s.top r.slots t g) e ∙ q.under))) in
        agreed_still r r' b b s s' machine_frame head key cache' ((w.fits (head / 3) cache' cached).layout.fits 0).few x refl refl (kept_other machine_frame other)
        (λ j low. subst (λ u. is_live r' u cache' (kept_at s.kept machine_frame) key j ≡ is_live r u cache' (kept_at s.kept machine_frame) key j) (sym tenant)
        (ap (λ (z : ℕ). if is_small (layout_numbers cache').chunk then is_set z (j % 8) else is_set (kept_at s.kept machine_frame).outside j)
        (ap byte_or_zero (k.bytes (4096 * key + 4064 + j / 8) (λ m less' e. differ (omega arith))))))

    mine : (machine_frame head key : ℕ) (cache' : own.Cache) → place_at s'.lists.places machine_frame ≡ Some (head, key) → cache_in s.caches (head / 3) ≡ Some cache'
        → head / 3 / MAX_CACHES ≡ t → IsAgreed r' b s' machine_frame head key cache'
    mine machine_frame head key cache' place cached tenant = elim (cases_eq machine_frame n) [
      | inl same ↦
          let at = same_place place_now (ap (place_at s'.lists.places) (sym same) ∙ place) in
          let cache_is : cache ≡ cache' = some_same (sym h.cached ∙ (ap (cache_in s.caches) (sym index_now ∙ ap (λ (x : ℕ). x / 3) at.0) ∙ cached)) in
          subst (λ (m : ℕ). IsAgreed r' b s' m head key cache') (sym same)
          (subst (λ (x : own.Cache). IsAgreed r' b s' n head key x) cache_is
          (subst (λ (x : ℕ). IsAgreed r' b s' n x key cache) at.0
          (subst (λ (x : ℕ). IsAgreed r' b s' n head_now x cache) at.1 own_slab)))
      | inr ne ↦ other_slab machine_frame head key cache' ne (sym (place_other machine_frame ne) ∙ place) cached tenant
    ]

    pub counted : IsRecounted r r' b s s' t c (found cache f n i) v
    counted = record {
      marked = marked;
      spares = spares_of r r' b b s s' t f n local laws.apart;
      agree = agree_of r r' b b s s' t f n local laws.apart w a (length-set s.lists.places n (Some (head_now, f))) refl (λ u. refl)
          (λ head key place. ap (λ (x : ℕ). x / 3 / MAX_CACHES) (sym (same_place place_now place).0) ∙ tenant_now) mine;
    }
