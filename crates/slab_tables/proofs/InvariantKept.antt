-- Each change of the tables keeps their invariant.
use Rattle.std.proofs.Common.{◌≡◌, ℕ, ◌+◌, ◌-◌, ◌*◌, ◌/◌, ◌%◌, ◌^◌, ◌<◌, ◌≤◌, Bool, true, false, cond, List, Option, Some, None, length, get_or, set, replicate, refl, sym, ap, ◌∙◌, subst, inl, inr, arith}
use Rattle.std.proofs.Math.Nat.{mul-le-mul_right}
use Rattle.std.proofs.lemmas.Bool.{cases_eq, eq-eqb, ne_eqb, lt-ltb}
use Rattle.std.proofs.lemmas.List.{length-set, length-replicate, get_or-set_same, get_or-set_other, set-get_or, get_or_read}
use Rattle.klist_core.specs.Places.{place_at}
use Rattle.klist_core.proofs.PlacesChanged.{placed_within}
use Rattle.model_core.specs.declared.limits.TheConstants.{MAX_CACHES, WIDE_ORDER, WIDE_SUPERBLOCKS, WIDE_TENANTS, WIDE_FRAMES}
use Rattle.model_core.proofs.Lists.{everywhere}
use Rattle.slab_tables.specs.declared.cache.Cache.{Cache}
use Rattle.slab_tables.specs.declared.cache.Kept.{Kept}
use Rattle.slab_tables.specs.Content.{Content, IsSlabs, IsListed, IsTableCache, IsTenant, IsPlacedIn, blank, kept_at, cache_in, cache_at, index_of_cache, head_of, layout_numbers, kind_of, is_of_index, live_total, empty_tables}
use Rattle.slab_tables.specs.Changes.{fresh_kept, made_more, with_new_slab, with_count, with_outside, without_slab, with_cache}
use Rattle.slab_tables.proofs.LiveTotals.{part, total_set, part_within, total_none, total_few}
use Rattle.slab_tables.proofs.TableReads.{same_cache, same_place, IsCached, cached, cache_within, placed_at, head_parts, listed, few_live, kind_below, kind_fresh}

-- if p is a place in a list, the cache of that list exists, and the stored state k fits the cache and the list
abbrev pub InOrder : Content → Option (ℕ × ℕ) → Kept → Type 0
InOrder s p k = (head key : ℕ) → p ≡ Some (head, key) → (c : Cache) × (cache_in s.caches (head / 3) ≡ Some c) × IsListed k c head

abbrev pub with_machine_frame : Content → ℕ → Option (ℕ × ℕ) → Kept → List ℕ → Content
with_machine_frame s machine_frame p k live = record {
  top = s.top;
  lists = record { heads = s.lists.heads; places = set s.lists.places machine_frame p };
  kept = set s.kept machine_frame k;
  caches = s.caches;
  live = live;
}

-- Suppose that the place and the state at one machine frame are replaced by p and k. The invariant still holds if `InOrder` holds
-- for p and k, and if each total changes by as much as the machine frame's part of that total. A total is the number of live
-- objects of a cache.
pub slabs_machine_frame : (s : Content) (machine_frame : ℕ) (p : Option (ℕ × ℕ)) (k : Kept) (live : List ℕ) → IsSlabs s → machine_frame < length s.lists.places → InOrder s p k
    → length live ≡ length s.live
    → ((n : ℕ) → n < length s.live → get_or live n 0 + part n (place_at s.lists.places machine_frame) (kept_at s.kept machine_frame) ≡ get_or s.live n 0 + part n p k)
    → IsSlabs (with_machine_frame s machine_frame p k live)
slabs_machine_frame s machine_frame p k live w lt stands size counts = record {
  order = w.order;
  paired = length-set s.kept machine_frame k ∙ (w.paired ∙ sym (length-set s.lists.places machine_frame p));
  small = omega (arith, w.small, length-set s.lists.places machine_frame p);
  superblocks = omega (arith, w.superblocks, length-set s.lists.places machine_frame p);
  few = w.few;
  heads = w.heads;
  totals = size ∙ w.totals;
  fits = w.fits;
  standing = standing;
  counted = counted;
}
  where
    standing : (i head key : ℕ) → place_at (set s.lists.places machine_frame p) i ≡ Some (head, key)
        → (c : Cache) × (cache_in s.caches (head / 3) ≡ Some c) × IsListed (kept_at (set s.kept machine_frame k) i) c head
    standing i head key e = elim (cases_eq i machine_frame) [
      | inl is ↦
          let here : p ≡ Some (head, key) = sym (ap (place_at (set s.lists.places machine_frame p)) is ∙ get_or-set_same s.lists.places machine_frame p None lt) ∙ e in
          let same : kept_at (set s.kept machine_frame k) i ≡ k = ap (kept_at (set s.kept machine_frame k)) is ∙ get_or-set_same s.kept machine_frame k blank (omega (arith, w.paired)) in
          let x = stands head key here in
          (x.0, x.1, subst (λ (y : Kept). IsListed y x.0 head) (sym same) x.2)
      | inr ne ↦
          let there : place_at s.lists.places i ≡ Some (head, key) = sym (get_or-set_other s.lists.places machine_frame i p None ne) ∙ e in
          let same : kept_at (set s.kept machine_frame k) i ≡ kept_at s.kept i = get_or-set_other s.kept machine_frame i k blank ne in
          let x = w.standing i head key there in
          (x.0, x.1, subst (λ (y : Kept). IsListed y x.0 head) (sym same) x.2)
    ]

    counted : (n : ℕ) → n < length s.caches → get_or live n 0 ≡ live_total n (set s.lists.places machine_frame p) (set s.kept machine_frame k)
    counted n below =
        let t = total_set n machine_frame p k s.lists.places s.kept lt (omega (arith, w.paired)) in
        omega (arith, t, counts n (omega (arith, w.totals)), w.counted n below)

-- The invariant holds after entry i of the caches is replaced by a valid cache that fits all slabs of the old one. It also holds
-- after the entry is replaced by `None`, if the old cache has no slab.
pub slabs_cache : (s : Content) (i : ℕ) (o : Option Cache) → IsSlabs s → i < length s.caches → ((c : Cache) → o ≡ Some c → IsTableCache c)
    → ((machine_frame head key : ℕ) → place_at s.lists.places machine_frame ≡ Some (head, key) → head / 3 ≡ i → (c : Cache) × (o ≡ Some c) × IsListed (kept_at s.kept machine_frame) c head)
    → IsSlabs (record s { caches = set s.caches i o })
slabs_cache s i o w lt fits stands = record {
  order = w.order;
  paired = w.paired;
  small = w.small;
  superblocks = w.superblocks;
  few = omega (arith, w.few, length-set s.caches i o);
  heads = omega (arith, w.heads, length-set s.caches i o);
  totals = w.totals ∙ sym (length-set s.caches i o);
  fits = λ n c e. elim (cases_eq n i) [
    | inl is ↦ fits c (sym (ap (cache_in (set s.caches i o)) is ∙ get_or-set_same s.caches i o None lt) ∙ e)
    | inr ne ↦ w.fits n c (sym (get_or-set_other s.caches i n o None ne) ∙ e)
  ];
  standing = λ machine_frame head key e. elim (cases_eq (head / 3) i) [
    | inl is ↦
        let x = stands machine_frame head key e is in
        (x.0, ap (cache_in (set s.caches i o)) is ∙ (get_or-set_same s.caches i o None lt ∙ x.1), x.2)
    | inr ne ↦
        let x = w.standing machine_frame head key e in
        (x.0, get_or-set_other s.caches i (head / 3) o None ne ∙ x.1, x.2)
  ];
  counted = λ n below. w.counted n (omega (arith, length-set s.caches i o));
}

pub slabs_outside : (s : Content) (machine_frame outside : ℕ) → IsSlabs s → machine_frame < length s.lists.places → IsSlabs (with_outside s machine_frame outside)
slabs_outside s machine_frame outside w lt =
    let k : Kept = record (kept_at s.kept machine_frame) { outside = outside } in
    let same : set s.lists.places machine_frame (place_at s.lists.places machine_frame) ≡ s.lists.places = set-get_or s.lists.places machine_frame None in
    subst (λ (xs : List (Option (ℕ × ℕ))). IsSlabs (record { top = s.top; lists = record { heads = s.lists.heads; places = xs }; kept = set s.kept machine_frame k; caches = s.caches; live = s.live })) same
    (slabs_machine_frame s machine_frame (place_at s.lists.places machine_frame) k s.live w lt (λ head key e. stands head key e) refl (λ n below. refl))
  where
    stands : (head key : ℕ) → place_at s.lists.places machine_frame ≡ Some (head, key)
        → (c : Cache) × (cache_in s.caches (head / 3) ≡ Some c) × IsListed (record (kept_at s.kept machine_frame) { outside = outside }) c head
    stands head key e = let x = w.standing machine_frame head key e in (x.0, x.1, record { kind = x.2.kind; few = x.2.few; colour = x.2.colour })

-- a slab without live objects adds 0 to every total
part_zero : (n : ℕ) (p : Option (ℕ × ℕ)) (k : Kept) → k.live ≡ 0 → part n p k ≡ 0
part_zero n p k e = zero_either (is_of_index n p)
  where
    zero_either : (b : Bool) → cond b k.live 0 ≡ 0
    zero_either true = e
    zero_either false = refl

pub slabs_without : (s : Content) (machine_frame : ℕ) → IsSlabs s → machine_frame < length s.lists.places → (kept_at s.kept machine_frame).live ≡ 0 → IsSlabs (without_slab s machine_frame)
slabs_without s machine_frame w lt empty =
    let same : set s.kept machine_frame (kept_at s.kept machine_frame) ≡ s.kept = set-get_or s.kept machine_frame blank in
    subst (λ (ks : List Kept). IsSlabs (record { top = s.top; lists = record { heads = s.lists.heads; places = set s.lists.places machine_frame None }; kept = ks; caches = s.caches; live = s.live })) same
    (slabs_machine_frame s machine_frame None (kept_at s.kept machine_frame) s.live w lt
    (λ head key e. absurd (let f : ◌≡◌ {A = Option (ℕ × ℕ)} None (Some (head, key)) = e in cc)) refl
    (λ n below. omega (arith, part_zero n (place_at s.lists.places machine_frame) (kept_at s.kept machine_frame) empty)))

abbrev with_made : Content → ℕ → ℕ → Cache → Content
with_made s t c cache = record s { caches = set s.caches (index_of_cache t c) (Some (made_more cache)) }

-- the invariant holds after a slab is added
pub slabs_slab : (s : Content) (t c : ℕ) (cache : Cache) (first machine_frame : ℕ) → IsSlabs s → cache_at s t c ≡ Some cache → index_of_cache t c < length s.caches
    → machine_frame < length s.lists.places → place_at s.lists.places machine_frame ≡ None → IsSlabs (with_new_slab s t c cache first machine_frame)
slabs_slab s t c cache first machine_frame w e below lt free =
    slabs_machine_frame (with_made s t c cache) machine_frame (Some (head_of t c 2, first)) (fresh_kept cache) s.live more lt (λ head key q. stands head key q) refl
    (λ n there. omega (arith, part_zero n (Some (head_of t c 2, first)) (fresh_kept cache) refl, ap (λ p. part n p (kept_at s.kept machine_frame)) free))
  where
    here : IsCached s t c cache
    here = cached s t c cache e

    fit : IsTableCache cache
    fit = w.fits (index_of_cache t c) cache here.cached

    more : IsSlabs (with_made s t c cache)
    more = slabs_cache s (index_of_cache t c) (Some (made_more cache)) w below
        (λ d q. subst IsTableCache (same_cache {o = Some (made_more cache)} refl q)
        (record { size = fit.size; align = fit.align; layout = fit.layout; pattern = fit.pattern; made = omega (arith, fit.layout.colours) }))
        (λ i head key q is.
        let x = w.standing i head key q in
        let same : x.0 ≡ cache = same_cache (sym (ap (cache_in s.caches) is) ∙ x.1) here.cached in
        let l = subst (λ y. IsListed (kept_at s.kept i) y head) same x.2 in
        (made_more cache, refl, record { kind = l.kind; few = l.few; colour = l.colour }))

    stands : (head key : ℕ) → ◌≡◌ {A = Option (ℕ × ℕ)} (Some (head_of t c 2, first)) (Some (head, key))
        → (d : Cache) × (cache_in (set s.caches (index_of_cache t c) (Some (made_more cache))) (head / 3) ≡ Some d) × IsListed (fresh_kept cache) d head
    stands head key q =
        let is : head_of t c 2 ≡ head = (same_place {o = Some (head_of t c 2, first)} refl q).0 in
        let count = (fit.layout.fits cache.made).some in (
          made_more cache,
          ap (cache_in (set s.caches (index_of_cache t c) (Some (made_more cache)))) (ap (λ x. x / 3) (sym is) ∙ (head_parts t c 2 (omega arith)).0)
              ∙ get_or-set_same s.caches (index_of_cache t c) (Some (made_more cache)) None below,
          record {
            kind = ap (λ x. x % 3) (sym is) ∙ ((head_parts t c 2 (omega arith)).1 ∙ sym (kind_fresh (layout_numbers cache).count count));
            few = omega arith;
            colour = (cache.made, refl);
          },
        )

-- the invariant holds after a cache without slabs is removed
pub slabs_less : (s : Content) (t c : ℕ) → IsSlabs s → index_of_cache t c < length s.caches → ((first machine_frame : ℕ) → IsPlacedIn s t c first machine_frame → ⊥)
    → IsSlabs (with_cache s t c None)
slabs_less s t c w below none = slabs_cache s (index_of_cache t c) None w below
    (λ d e. absurd (let f : ◌≡◌ {A = Option Cache} None (Some d) = e in cc))
    (λ machine_frame head key e is. absurd (none key machine_frame (placed_at s t c head key machine_frame e is)))

-- the invariant holds after a cache is added under a free number
pub slabs_more : (s : Content) (t c : ℕ) (cache : Cache) → IsSlabs s → c < MAX_CACHES → index_of_cache t c < length s.caches → cache_at s t c ≡ None → IsTableCache cache
    → IsSlabs (with_cache s t c (Some cache))
slabs_more s t c cache w lt below vacant fit = slabs_cache s (index_of_cache t c) (Some cache) w below
    (λ d e. subst IsTableCache (same_cache {o = Some cache} refl e) fit)
    (λ machine_frame head key e is.
    let x = w.standing machine_frame head key e in
    let gone : cache_in s.caches (index_of_cache t c) ≡ None = sym (ap (λ b. cond b (cache_in s.caches (index_of_cache t c)) None) (lt-ltb c MAX_CACHES lt)) ∙ vacant in
    absurd (let f : ◌≡◌ {A = Option Cache} None (Some x.0) = sym gone ∙ (sym (ap (cache_in s.caches) is) ∙ x.1) in cc))

-- a slab adds its live objects to the total of its own cache, and nothing to the total of any other cache
part_here : (t c kind first n : ℕ) (k : Kept) → kind < 3 → n ≡ index_of_cache t c → part n (Some (head_of t c kind, first)) k ≡ k.live
part_here t c kind first n k lt is = ap (λ b. cond b k.live 0) (eq-eqb (head_of t c kind / 3) n ((head_parts t c kind lt).0 ∙ sym is))

part_elsewhere : (t c kind first n : ℕ) (k : Kept) → kind < 3 → (n ≡ index_of_cache t c → ⊥) → part n (Some (head_of t c kind, first)) k ≡ 0
part_elsewhere t c kind first n k lt ne = ap (λ b. cond b k.live 0) (ne_eqb (head_of t c kind / 3) n (λ e. ne (sym e ∙ (head_parts t c kind lt).0)))

-- the total of cache c is at least the number of live objects in the slab at the machine frame, and at most 2 ^ 24
pub record IsTotal (s : Content) (t c machine_frame : ℕ) : Type 0 where
  pub at_least : (kept_at s.kept machine_frame).live ≤ get_or s.live (index_of_cache t c) 0
  pub at_most : get_or s.live (index_of_cache t c) 0 ≤ 256 * WIDE_FRAMES

pub total_of : (s : Content) (t c first machine_frame : ℕ) → IsSlabs s → index_of_cache t c < length s.caches → IsPlacedIn s t c first machine_frame → IsTotal s t c machine_frame
total_of s t c first machine_frame w below p =
    let n = index_of_cache t c in
    let lt = placed_within s.lists.places machine_frame (head_of t c p.kind, first) p.placed in
    let own = ap (λ x. part n x (kept_at s.kept machine_frame)) p.placed ∙ part_here t c p.kind first n (kept_at s.kept machine_frame) p.few refl in
    record {
      at_least = omega (arith, w.counted n below, part_within n machine_frame s.lists.places s.kept lt (omega (arith, w.paired)), own);
      at_most = omega (arith, w.counted n below, total_few n s.lists.places s.kept (few_live s w), w.small);
    }

abbrev counted_kept : Content → ℕ → ℕ → Kept
counted_kept s machine_frame count = record (kept_at s.kept machine_frame) { live = count }

abbrev counted_live : Content → ℕ → ℕ → ℕ → List ℕ
counted_live s n machine_frame count = set s.live n (get_or s.live n 0 + count - (kept_at s.kept machine_frame).live)

-- the invariant holds after the number of live objects in a slab is set, if the new number is at most the slab's number of
-- objects
pub slabs_count : (s : Content) (t c : ℕ) (cache : Cache) (first machine_frame count : ℕ) → IsSlabs s → cache_at s t c ≡ Some cache → index_of_cache t c < length s.caches
    → IsPlacedIn s t c first machine_frame → count ≤ (layout_numbers cache).count → IsSlabs (with_count s t c cache first machine_frame count)
slabs_count s t c cache first machine_frame count w e below p few =
    slabs_machine_frame s machine_frame (Some (head_of t c (kind_of (layout_numbers cache).count count), first)) (counted_kept s machine_frame count) (counted_live s (index_of_cache t c) machine_frame count) w
    (placed_within s.lists.places machine_frame (head_of t c p.kind, first) p.placed) stands (length-set s.live (index_of_cache t c) _) counts
  where
    stands : InOrder s (Some (head_of t c (kind_of (layout_numbers cache).count count), first)) (counted_kept s machine_frame count)
    stands head key q =
        let kind = kind_of (layout_numbers cache).count count in
        let parts = head_parts t c kind (kind_below (layout_numbers cache).count count) in
        let is : head_of t c kind ≡ head = (same_place {o = Some (head_of t c kind, first)} refl q).0 in
        let old = listed s w t c first machine_frame cache e p.kind p.few p.placed in (
          cache,
          ap (cache_in s.caches) (ap (λ x. x / 3) (sym is) ∙ parts.0) ∙ (cached s t c cache e).cached,
          record { kind = ap (λ x. x % 3) (sym is) ∙ parts.1; few = few; colour = old.colour },
        )

    counts : (m : ℕ) → m < length s.live
        → get_or (counted_live s (index_of_cache t c) machine_frame count) m 0 + part m (place_at s.lists.places machine_frame) (kept_at s.kept machine_frame)
        ≡ get_or s.live m 0 + part m (Some (head_of t c (kind_of (layout_numbers cache).count count), first)) (counted_kept s machine_frame count)
    counts m lt =
        let n = index_of_cache t c in
        let kind = kind_of (layout_numbers cache).count count in
        let below_three = kind_below (layout_numbers cache).count count in
        let placed = ap (λ x. part m x (kept_at s.kept machine_frame)) p.placed in
        elim (cases_eq m n) [
          | inl is ↦
              let total = total_of s t c first machine_frame w below p in
              let here : get_or (counted_live s n machine_frame count) m 0 ≡ get_or s.live n 0 + count - (kept_at s.kept machine_frame).live =
              ap (λ x. get_or (counted_live s n machine_frame count) x 0) is ∙ get_or-set_same s.live n _ 0 (omega (arith, w.totals)) in
              omega (
                arith,
                here,
                total.at_least,
                placed,
                part_here t c p.kind first m (kept_at s.kept machine_frame) p.few is,
                part_here t c kind first m (counted_kept s machine_frame count) below_three is,
                ap (λ x. get_or s.live x 0) is,
              )
          | inr ne ↦
              omega (
                arith,
                get_or-set_other s.live n m (get_or s.live n 0 + count - (kept_at s.kept machine_frame).live) 0 ne,
                placed,
                part_elsewhere t c p.kind first m (kept_at s.kept machine_frame) p.few ne,
                part_elsewhere t c kind first m (counted_kept s machine_frame count) below_three ne,
              )
        ]

-- if the code reads k at the slab's machine frame, k is the stored state of the slab
pub kept_read : (s : Content) (t c first machine_frame : ℕ) (k : Kept) → IsSlabs s → IsPlacedIn s t c first machine_frame → k ≡ get_or s.kept machine_frame k → k ≡ kept_at s.kept machine_frame
kept_read s t c first machine_frame k w p read =
    let lt = placed_within s.lists.places machine_frame (head_of t c p.kind, first) p.placed in
    get_or_read s.kept machine_frame k (omega (arith, w.paired)) read blank

-- The code sets a slab's number of live objects to `count`. The `total` that it read is the cache's number of live objects, and
-- the k that it read is the slab's stored state. Adding `count` to `total` does not overflow, and subtracting `k.live` then does
-- not underflow.
pub record IsCounting (s : Content) (t c machine_frame count total : ℕ) (k : Kept) : Type 0 where
  pub total_is : total ≡ get_or s.live (index_of_cache t c) 0
  pub kept_is : k ≡ kept_at s.kept machine_frame
  pub fits : total + count < 4294967296
  pub enough : k.live ≤ total + count

pub counting : (s : Content) (t c : ℕ) (cache : Cache) (first machine_frame count total : ℕ) (k : Kept) → IsSlabs s → IsTenant s t → cache_at s t c ≡ Some cache
    → IsPlacedIn s t c first machine_frame → count ≤ (layout_numbers cache).count → total ≡ get_or s.live (index_of_cache t c) total → k ≡ get_or s.kept machine_frame k
    → IsCounting s t c machine_frame count total k
counting s t c cache first machine_frame count total k w tenant e p few read read_kept =
    let here = cached s t c cache e in
    let below = cache_within s t c tenant here.below in
    let x = total_of s t c first machine_frame w below p in
    let same = get_or_read s.live (index_of_cache t c) total (omega (arith, below, w.totals)) read 0 in
    let same_kept = kept_read s t c first machine_frame k w p read_kept in
    let objects = ((w.fits (index_of_cache t c) cache here.cached).layout.fits 0).few in
    record {
      total_is = same;
      kept_is = same_kept;
      fits = omega (arith, x.at_most);
      enough = omega (arith, x.at_least, ap (λ (y : Kept). y.live) same_kept);
    }

-- the invariant holds for tables that have no caches and no slabs
pub slabs_opening : (top superblocks tenants : ℕ) → top ≤ WIDE_ORDER → superblocks ≤ WIDE_SUPERBLOCKS → tenants ≤ WIDE_TENANTS → superblocks * 2 ^ top ≤ WIDE_FRAMES → IsSlabs (empty_tables top superblocks tenants)
slabs_opening top superblocks tenants order few_superblocks few_tenants frames = record {
  order = order;
  paired = length-replicate machine_frames blank ∙ sym (length-replicate machine_frames unplaced);
  small = omega (arith, length-replicate machine_frames unplaced, frames);
  superblocks = omega (arith, length-replicate machine_frames unplaced, mul-le-mul_right (2 ^ top) few_superblocks);
  few = omega (arith, length-replicate (MAX_CACHES * tenants) uncached);
  heads = omega (arith, length-replicate (MAX_CACHES * tenants) uncached);
  totals = length-replicate (MAX_CACHES * tenants) 0 ∙ sym (length-replicate (MAX_CACHES * tenants) uncached);
  fits = λ n c e. absurd (let f : ◌≡◌ {A = Option Cache} None (Some c) = sym (everywhere uncached (MAX_CACHES * tenants) n) ∙ e in cc);
  standing = λ machine_frame head key e. absurd (let f : ◌≡◌ {A = Option (ℕ × ℕ)} None (Some (head, key)) = sym (everywhere unplaced machine_frames machine_frame) ∙ e in cc);
  counted = λ n below. everywhere 0 (MAX_CACHES * tenants) n
      ∙ sym (total_none n (replicate machine_frames unplaced) (replicate machine_frames blank) (λ i. ap (is_of_index n) (everywhere unplaced machine_frames i)));
}
  where
    machine_frames : ℕ
    machine_frames = superblocks * 2 ^ top

    unplaced : Option (ℕ × ℕ)
    unplaced = None

    uncached : Option Cache
    uncached = None
