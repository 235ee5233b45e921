-- Frames that are not taken, and frames in empty slabs.
use Rattle.std.proofs.Common.{◌≡◌, ℕ, ◌+◌, ◌/◌, ◌^◌, ◌<◌, ◌≤◌, true, false, Some, refl, sym, ap, ◌∙◌, subst, ⊎_elim, arith}
use Rattle.std.proofs.Math.Nat.{pow-le-pow_right}
use Rattle.std.proofs.lemmas.Bool.{false≢true, cases_lt}
use Rattle.std.proofs.lemmas.Nat.{pow_pos}
use Rattle.model_core.specs.Blocks.{block, HasFrame}
use Rattle.model_core.specs.declared.limits.TheConstants.{MAX_CACHES, WIDE_ORDER}
use Rattle.space_core.specs.Content as spaces
use Rattle.buddy_core.specs.Content as buddies
use Rattle.klist_core.specs.Places.{place_at}
use Rattle.slab_tables.specs.Content.{Content, IsSlabs, layout_numbers, head_of}
use Rattle.machine_changes.specs.Shows.{Agree}
use Rattle.machine_changes.specs.Steady.{IsSteady}
use Rattle.machine_changes.specs.Fitting.{IsIdle}
use Rattle.machine_changes.proofs.Lookups.{some_same}
use Rattle.machine_changes.proofs.SteadyParts.{placed_as}
use Rattle.slab_core.specs.Calls.{idle_at}
use Rattle.slab_core.specs.Fitting.{IsUnusedFrame, IsBorder, IsUnusedTo}
use Rattle.slab_core.proofs.ReturnEmptySlabs.{idle_tells, idle_is}

-- a block has at most 1,024 frames
pub small_size : (k : ℕ) → k ≤ WIDE_ORDER → 2 ^ k ≤ 1024
small_size k small = let two : 0 < 2 = omega arith in pow-le-pow_right two small

-- `idle_at` is true of the first frame of the slab in which an idle frame lies
pub idle_begins : (r : spaces.Content) (s : Content) (t x : ℕ) (i : IsIdle r s t x) → idle_at (λ n. true) r s t i.first ≡ true
idle_begins r s t x i =
    let p = placed_as r s t i.number i.first i.machine_frame i.cache i.slab in
    idle_is (λ n. true) r s t i.first i.machine_frame p.head i.first i.slab.under p.place refl i.empty

module _ (r : spaces.Content) (b : buddies.Content) (s : Content) (t : ℕ) (st : IsSteady r b s t) where
  -- a taken block has an order of at most WIDE_ORDER
  pub order_small : IsSlabs s → (f k : ℕ) → buddies.taken_of (buddies.holding_of t b) f ≡ Some k → k ≤ WIDE_ORDER
  order_small w f k taken = omega (arith, (st.sound.placed f k taken).0.0, w.order)

  -- all frames of an empty slab's block are idle
  pub idle_in : (f k x : ℕ) → buddies.taken_of (buddies.holding_of t b) f ≡ Some k → HasFrame (block f k) x
      → idle_at (λ n. true) r s t f ≡ true → IsIdle r s t x
  idle_in f k x taken has idle =
      let i = idle_tells (λ n. true) r s t f idle in
      let there = st.listed f i.machine_frame i.head i.key i.under i.place in
      let order : k ≡ (layout_numbers there.1).order = some_same (sym taken ∙ (st.stands there.0 f i.machine_frame there.1 there.2).taken) in
      record {
        number = there.0;
        first = f;
        machine_frame = i.machine_frame;
        cache = there.1;
        slab = there.2;
        empty = i.empty;
        within = subst (λ j. HasFrame (block f j) x) order has;
      }

  -- if a taken block begins at a border (`IsBorder`), the frame after the block is a border too
  module _ (f k : ℕ) (taken : buddies.taken_of (buddies.holding_of t b) f ≡ Some k) (border : IsBorder b t f) where
    border_past : IsBorder b t (f + 2 ^ k)
    border_past g j is less = ⊎_elim
        (λ before. let ends = border g j is before in omega arith)
        (λ from.
        let size : 0 < 2 ^ j = pow_pos j in
        let same : f ≡ g = st.sound.apart f k g j g taken is (from, less) (omega arith, omega arith) in
        let order : j ≡ k = some_same (sym is ∙ ap (buddies.taken_of (buddies.holding_of t b)) (sym same) ∙ taken) in
        let alike : 2 ^ j ≡ 2 ^ k = ap (λ n. 2 ^ n) order in
        omega arith)
        (cases_lt g f)

    pub unused_to : idle_at (λ n. true) r s t f ≡ true → IsUnusedTo r b s t f (f + 2 ^ k)
    unused_to idle =
        let size : 0 < 2 ^ k = pow_pos k in
        record {
          some = omega arith;
          unused = λ x from to is. idle_in f k x taken (from, to) idle;
          border = border_past;
        }

    pub not_unused : idle_at (λ n. true) r s t f ≡ false → IsUnusedFrame r b s t f → ⊥
    not_unused busy unused =
        let size : 0 < 2 ^ k = pow_pos k in
        let has : HasFrame (block f k) f = (omega arith, omega arith) in
        let i = unused (f, k, taken, has) in
        let same : i.first ≡ f =
        st.sound.apart i.first (layout_numbers i.cache).order f k f (st.stands i.number i.first i.machine_frame i.cache i.slab).taken taken i.within has in
        false≢true (sym busy ∙ ap (idle_at (λ n. true) r s t) (sym same) ∙ idle_begins r s t f i)

-- a taken block of tenant t begins at the first frame of each slab in the list of empty slabs of cache c
pub listed_taken : (r : spaces.Content) (b : buddies.Content) (s : Content) (t c f n : ℕ) → IsSlabs s → Agree r b s → c < MAX_CACHES
    → place_at s.lists.places n ≡ Some (head_of t c 2, f) → (k : ℕ) × (buddies.taken_of (buddies.holding_of t b) f ≡ Some k)
listed_taken r b s t c f n w a less placed =
    let kept = w.standing n (head_of t c 2) f placed in
    let tenant : head_of t c 2 / 3 / MAX_CACHES ≡ t = omega arith in (
      (layout_numbers kept.0).order,
      subst (λ u. buddies.taken_of (buddies.holding_of u b) f ≡ Some (layout_numbers kept.0).order) tenant
          (a.slabs n (head_of t c 2) f kept.0 placed kept.1).taken,
    )
