-- The slabs in a cache's list of one kind are exactly the cache's slabs of that kind.
use Rattle.std.proofs.Common.{◌≡◌, ℕ, zero, suc, ◌+◌, ◌*◌, ◌/◌, ◌%◌, ◌<◌, Bool, true, false, not, cond, eqb, length, Some, refl, sym, ap, ◌∙◌, subst, arith}
use Rattle.std.specs.Prelude.{◌==◌, ◌&&◌}
use Rattle.std.proofs.lemmas.Bool.{eqb-true, eq-eqb, ne_eqb}
use Rattle.model_core.specs.Machine.{Slab, Cache, Machine}
use Rattle.model_core.specs.Slabs.{is_empty, cache_of, slab_of}
use Rattle.model_core.specs.Elements.{IsIn}
use Rattle.model_core.proofs.Lists.{find_in}
use Rattle.model_core.specs.declared.limits.TheConstants.{MAX_CACHES}
use Rattle.klist_core.specs.Places.{place_at}
use Rattle.space_core.specs.Content as spaces
use Rattle.buddy_core.specs.Content as buddies
use Rattle.slab_tables.specs.declared.cache.Cache as own
use Rattle.slab_tables.specs.Content.{Content, IsSlabs, kept_at, index_of_cache, head_of, kind_of, layout_numbers}
use Rattle.machine_changes.specs.Records.{count_true}
use Rattle.machine_changes.specs.Shows.{machine_frame_of, is_live, IsSlab, ShowsMachine, Agree}
use Rattle.machine_changes.specs.Laws.{is_kind}
use Rattle.machine_changes.proofs.Lookups.{some_same, in_found}
use Rattle.machine_changes.proofs.SlabFacts.{shown, cache_kept, slab_in, slab_of_machine}
use Rattle.machine_changes.proofs.ObjectFlags.{length_flags, any_counts, all_counts}
use Rattle.machine_changes.proofs.SteadyParts.{tenant_is, in_table, IsPlacedAs, placed_as, slab_from, counted}

-- Kinds by counts

three_kinds : (kind : ℕ) (full empty : Bool) → (full ≡ true → empty ≡ false) → kind < 3
    → cond (eqb kind 0) full (cond (eqb kind 1) (not full && not empty) empty) ≡ eqb (cond full 0 (cond empty 2 1)) kind
three_kinds zero true empty apart less = refl
three_kinds zero false true apart less = refl
three_kinds zero false false apart less = refl
three_kinds (suc zero) true empty apart less = refl
three_kinds (suc zero) false true apart less = refl
three_kinds (suc zero) false false apart less = refl
three_kinds (suc (suc zero)) true empty apart less = apart refl
three_kinds (suc (suc zero)) false true apart less = refl
three_kinds (suc (suc zero)) false false apart less = refl
three_kinds (suc (suc (suc kind))) full empty apart less = absurd (omega arith)

-- if a slab has objects, `kind_of` applied to its number of objects and its number of live objects gives its kind
pub kind_is : (kind : ℕ) (y : Slab) → 0 < length y.live → kind < 3 → is_kind kind y ≡ (kind_of (length y.live) (count_true y.live) == kind)
kind_is kind y some less =
    ap (λ v. cond (eqb kind 0) v (cond (eqb kind 1) (not v && not (is_empty y)) (is_empty y))) (all_counts y.live)
    ∙ ap (λ v. cond (eqb kind 0) (count_true y.live == length y.live) (cond (eqb kind 1) (not (count_true y.live == length y.live) && not v) v)) (any_counts y.live)
    ∙ three_kinds kind (count_true y.live == length y.live) (count_true y.live == 0)
    (λ full. let same : count_true y.live ≡ length y.live = eqb-true (count_true y.live) (length y.live) full in
    ne_eqb (count_true y.live) 0 (λ none. absurd (omega arith))) less

-- Slabs and lists

pub head_is : (head index kind : ℕ) → head / 3 ≡ index → head % 3 ≡ kind → head ≡ 3 * index + kind
head_is head index kind e e' = omega arith

index_is : (index kind : ℕ) → kind < 3 → (3 * index + kind) / 3 ≡ index
index_is index kind less = omega arith

rest_is : (index kind : ℕ) → kind < 3 → (3 * index + kind) % 3 ≡ kind
rest_is index kind less = omega arith

module _ (r : spaces.Content) (b : buddies.Content) (s : Content) (w : IsSlabs s) (a : Agree r b s) (t c kind : ℕ) (less : kind < 3) where
  -- a slab is of kind `kind` if and only if it is in a list for that kind
  pub kind_of_slab : (f n : ℕ) (cache : own.Cache) (q : IsSlab r s t c f n cache) (p : IsPlacedAs s t c f n cache)
      → is_kind kind (shown r s t c cache q.cached f n) ≡ (p.head % 3 == kind)
  kind_of_slab f n cache q p =
      let y : Slab = shown r s t c cache q.cached f n in
      let count : length y.live ≡ (layout_numbers cache).count =
      length_flags 0 (layout_numbers cache).count (is_live r t cache (kept_at s.kept n) f) in
      let some : 0 < (layout_numbers cache).count = ((w.fits (p.head / 3) cache p.cached).layout.fits 0).some in
      let kept = w.standing n p.head f p.place in
      let same : kept.0 ≡ cache = some_same (sym kept.1 ∙ p.cached) in
      kind_is kind y (omega arith) less
      ∙ ap (λ k. kind_of k (count_true y.live) == kind) count
      ∙ ap (λ k. kind_of (layout_numbers cache).count k == kind) (sym (counted r b s w a t c f n cache q))
      ∙ ap (λ (x : own.Cache). kind_of (layout_numbers x).count (kept_at s.kept n).live == kind) (sym same)
      ∙ ap (λ k. k == kind) (sym kept.2.kind)

  module _ (m : Machine) (x : Cache) (h : ShowsMachine r b s t m) (ex : cache_of m c ≡ Some x) where
    -- the slab is in the cache's list of kind `kind`
    pub record IsInList (y : Slab) : Type 0 where
      pub machine_frame : ℕ
      pub place : place_at s.lists.places machine_frame ≡ Some (head_of t c kind, y.first)

    pub to_list : (y : Slab) → IsIn y x.slabs → is_kind kind y ≡ true → IsInList y
    to_list y i e =
        let ey : slab_of x y.first ≡ Some y = in_found (λ z. z.first) 0 y x.slabs (h.slabs_rise c x ex) i in
        let is = slab_of_machine r b s t m h c y.first x y ex ey in
        let p = placed_as r s t c y.first is.machine_frame is.kept is.slab in
        let kind_there : p.head % 3 ≡ kind =
        eqb-true (p.head % 3) kind (sym (kind_of_slab y.first is.machine_frame is.kept is.slab p) ∙ ap (is_kind kind) (sym is.is) ∙ e) in
        record {
          machine_frame = is.machine_frame;
          place = p.place ∙ ap (λ (head : ℕ). Some (head, y.first)) (head_is p.head (index_of_cache t c) kind p.index kind_there);
        }

    -- the machine's cache has a slab of kind `kind` that begins at frame `first`
    pub record IsOfKind (first : ℕ) : Type 0 where
      pub slab : Slab
      pub listed : IsIn slab x.slabs
      pub standing : slab_of x first ≡ Some slab
      pub passes : is_kind kind slab ≡ true
      pub begins : slab.first ≡ first

    pub from_list : (first machine_frame : ℕ) → place_at s.lists.places machine_frame ≡ Some (head_of t c kind, first) → IsOfKind first
    from_list first machine_frame place =
        let head : ℕ = head_of t c kind in
        let number : c < MAX_CACHES = (in_table s t c (cache_kept r b s t m h c x ex).kept (cache_kept r b s t m h c x ex).cached).number in
        let index : head / 3 ≡ index_of_cache t c = index_is (index_of_cache t c) kind less in
        let tenant : head / 3 / MAX_CACHES ≡ t = tenant_is (head / 3) t c index number in
        let kept = w.standing machine_frame head first place in
        let under = subst (λ u. machine_frame_of s.top r.slots u first ≡ Some machine_frame) tenant (a.slabs machine_frame head first kept.0 place kept.1).under in
        let q = slab_from r s t c first machine_frame head kept.0 number index kept.1 under place in
        let p = placed_as r s t c first machine_frame kept.0 q in
        let same : p.head ≡ head = ap (λ (z : ℕ × ℕ). z.0) (some_same (sym p.place ∙ place)) in
        let is = slab_in r b s t m h c first machine_frame kept.0 q in
        let standing : slab_of x first ≡ Some (shown r s t c kept.0 q.cached first machine_frame) =
        ap (λ z. slab_of z first) (some_same (sym ex ∙ is.there.cached)) ∙ is.slab in
        record {
          slab = shown r s t c kept.0 q.cached first machine_frame;
          listed = (find_in _ _ x.slabs standing).0;
          standing = standing;
          passes = kind_of_slab first machine_frame kept.0 q p ∙ eq-eqb (p.head % 3) kind (ap (λ z. z % 3) same ∙ rest_is (index_of_cache t c) kind less);
          begins = refl;
        }
