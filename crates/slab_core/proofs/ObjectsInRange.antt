-- Ranges of bytes and the live objects that contain them.
use Rattle.std.proofs.Common.{◌≡◌, ℕ, ◌+◌, ◌-◌, ◌*◌, ◌/◌, ◌^◌, ◌<◌, ◌≤◌, true, false, Option, Some, None, refl, sym, ap, ◌∙◌, subst, arith}
use Rattle.std.specs.Prelude.{◌↔◌, MatchOption, is_some}
use Rattle.std.proofs.lemmas.Bool.{false≢true}
use Rattle.std.proofs.lemmas.Nat.{row_fits}
use Rattle.model_core.specs.Blocks.{block, HasFrame, IsTaken}
use Rattle.model_core.specs.Layouts.{object_offset}
use Rattle.layout_core.specs.Objects.{Holds, IsOnly}
use Rattle.space_core.specs.Content as spaces
use Rattle.buddy_core.specs.Content as buddies
use Rattle.slab_tables.specs.declared.cache.Cache as own
use Rattle.slab_tables.specs.Content.{Content, kept_at, layout_numbers}
use Rattle.machine_changes.specs.Shows.{machine_frame_of, has_slab, is_live, IsSlab}
use Rattle.machine_changes.specs.Steady.{IsSteady}
use Rattle.machine_changes.specs.Changes.{Found, found}
use Rattle.machine_changes.specs.Objects.{IsLiveObject, HasRange, HasNone}
use Rattle.machine_changes.proofs.SlabFacts.{has_it, one_slab}
use Rattle.machine_changes.proofs.LiveObjects.{fit_of}
use Rattle.slab_core.specs.declared.reaching.ObjectSpan.{ObjectSpan}
use Rattle.slab_core.specs.Reaching.{IsAround}
use Rattle.slab_core.proofs.SlabOfObject.{in_frame}

-- if no object satisfies R, the answer `false` is right
pub nowhere : {R : Found → Type 0} → ((o : Found) → R o → ⊥) → (false ≡ true) ↔ ((o : Found) × R o)
nowhere none = (λ e. absurd (false≢true e), λ o. absurd (none o.0 o.1))

module _ (r : spaces.Content) (b : buddies.Content) (s : Content) (t place len : ℕ) (st : IsSteady r b s t) where
  frame_in : (o : Found) → HasRange r s t place len o → HasFrame (block o.first (layout_numbers o.cache).order) (place / 4096)
  frame_in o h =
      let fit = fit_of r b s t h.number st o.first o.machine_frame o.cache h.object.slab in
      let l = layout_numbers o.cache in
      let colour = (kept_at s.kept o.machine_frame).colour in
      let row : o.index * l.chunk + l.chunk ≤ l.count * l.chunk = row_fits o.index l.chunk l.count l.chunk h.object.index (omega arith) in
      let small = (st.stands h.number o.first o.machine_frame o.cache h.object.slab).layout.chunked in
      let begins = h.object.begins in
      let inside = fit.inside in
      let within : l.room ≤ 4096 * 2 ^ l.order = fit.within in
      let some = h.some in
      let from = h.from in
      let to = h.to in
      let off : ℕ = place - 4096 * o.first in
      let whole : 4096 * o.first + off ≡ place = omega arith in
      subst (λ p. HasFrame (block o.first l.order) (p / 4096)) whole (in_frame o.first l.order off (omega arith))

  pub no_block : (IsTaken (buddies.taken_of (buddies.holding_of t b)) (place / 4096) → ⊥) → HasNone r s t place len
  no_block none o h = none (o.first, (layout_numbers o.cache).order, (st.stands h.number o.first o.machine_frame o.cache h.object.slab).taken, frame_in o h)

  module _ (first order : ℕ) (taken : buddies.taken_of (buddies.holding_of t b) first ≡ Some order) (has : HasFrame (block first order) (place / 4096)) where
    begins_there : (o : Found) → HasRange r s t place len o → o.first ≡ first
    begins_there o h =
        st.sound.apart o.first (layout_numbers o.cache).order first order (place / 4096) (st.stands h.number o.first o.machine_frame o.cache h.object.slab).taken taken (frame_in o h) has

    pub no_slab : has_slab s (machine_frame_of s.top r.slots t first) ≡ false → HasNone r s t place len
    no_slab none o h =
        false≢true (sym none ∙ subst (λ f. has_slab s (machine_frame_of s.top r.slots t f) ≡ true) (begins_there o h) (has_it r s t h.number o.first o.machine_frame o.cache h.object.slab))

    module _ (c n : ℕ) (cache : own.Cache) (q : IsSlab r s t c first n cache) where
      -- object i of this slab is live and contains the range, which is not empty
      record IsHere (i : ℕ) : Type 0 where
        begin : ℕ
        object : IsLiveObject r s t c begin (found cache first n i)
        some : 0 < len
        from : begin ≤ place
        to : place + len ≤ begin + cache.layout.size

      here : (o : Found) → HasRange r s t place len o → IsHere o.index
      here o h =
          let e = begins_there o h in
          let one = one_slab r s t c first n h.number o.first o.machine_frame cache o.cache q h.object.slab e in
          let object : IsLiveObject r s t c h.begin (found cache first n o.index) =
          subst (λ f. IsLiveObject r s t c h.begin (found cache f n o.index)) e
          (subst (λ k. IsLiveObject r s t k h.begin (found cache o.first n o.index)) one.number
          (subst (λ m. IsLiveObject r s t h.number h.begin (found cache o.first m o.index)) one.machine_frame
          (subst (λ x. IsLiveObject r s t h.number h.begin (found x o.first o.machine_frame o.index)) one.same h.object))) in
          record { begin = h.begin; object = object; some = h.some; from = h.from; to = subst (λ (x : own.Cache). place + len ≤ h.begin + x.layout.size) one.same h.to }

      holds : (o : Found) → HasRange r s t place len o → Holds cache.layout (kept_at s.kept n).colour (place - 4096 * first) len o.index
      holds o h =
          let x = here o h in
          let begins = x.object.begins in
          let from = x.from in
          let to = x.to in
          record { object = x.object.index; some = x.some; from = omega arith; to = omega arith }

      pub none_holds : ((i : ℕ) → Holds cache.layout (kept_at s.kept n).colour (place - 4096 * first) len i → ⊥) → HasNone r s t place len
      none_holds none o h = none o.index (holds o h)

      pub not_live : (i : ℕ) → IsOnly (Holds cache.layout (kept_at s.kept n).colour (place - 4096 * first) len) i
          → is_live r t cache (kept_at s.kept n) first i ≡ false → HasNone r s t place len
      not_live i only dead o h =
          false≢true (sym dead ∙ (ap (is_live r t cache (kept_at s.kept n) first) (sym (only.only o.index (holds o h))) ∙ (here o h).object.live))

      -- if object i is the only object of the slab that contains the range, and it is live, `IsAround` is true of it
      pub is_around : (i offset bytes : ℕ) → IsOnly (Holds cache.layout (kept_at s.kept n).colour (place - 4096 * first) len) i
          → is_live r t cache (kept_at s.kept n) first i ≡ true
          → offset ≡ object_offset (layout_numbers cache) (kept_at s.kept n).colour i → bytes ≡ cache.layout.size
          → IsAround r s t place len (record { cache = c; place = 4096 * first + offset; bytes = bytes })
      is_around i offset bytes only live at size =
          let is = only.is in
          let low = has.0 in
          let from = is.from in
          let to = is.to in
          record {
            object = found cache first n i;
            live = record { slab = q; index = is.object; live = live; begins = sym (ap (λ k. 4096 * first + k) at) };
            size = size;
            some = is.some;
            from = omega arith;
            to = omega arith;
          }

-- if `IsAround` is true of an object, a live object contains the range
has_range : (r : spaces.Content) (s : Content) (t place len : ℕ) (o : ObjectSpan) → IsAround r s t place len o → (x : Found) × HasRange r s t place len x
has_range r s t place len o is = (
  is.object,
  record { number = o.cache; begin = o.place; object = is.live; some = is.some; from = is.from; to = omega (arith, is.to, is.size) },
)

-- the search finds an object if and only if a live object contains the range
pub is_found : (r : spaces.Content) (s : Content) (t place len : ℕ) (o : Option ObjectSpan)
    → MatchOption o (HasNone r s t place len) (IsAround r s t place len) → (is_some o ≡ true) ↔ ((x : Found) × HasRange r s t place len x)
is_found r s t place len None none = nowhere none
is_found r s t place len (Some o) is = (λ yes. has_range r s t place len o is, λ some. refl)
