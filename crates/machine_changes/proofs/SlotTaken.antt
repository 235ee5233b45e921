-- If a superblock is taken back from a slot without taken frames, the parts show `after_take_back` of the tenant's machine.
use Rattle.std.proofs.Common.{◌≡◌, ◌≢◌, ℕ, ◌+◌, ◌*◌, ◌/◌, ◌%◌, ◌^◌, ◌<◌, false, cond, eqb, length, Some, None, refl, sym, ap, ◌∙◌, subst, arith}
use Rattle.std.specs.Prelude.{filter, not}
use Rattle.std.proofs.lemmas.Bool.{eq-eqb, false_from_ne_true}
use Rattle.std.proofs.lemmas.List.{length-set}
use Rattle.std.proofs.lemmas.Nat.{div-add-mod', mod_below, pow_pos}
use Rattle.model_core.specs.Blocks.{block, slot_block, HasFrame, HasTaken}
use Rattle.model_core.specs.Machine.{Machine}
use Rattle.model_core.specs.Operations.{after_take_back}
use Rattle.model_core.proofs.BlocksApart.{has_first}
use Rattle.space_core.specs.Content as spaces
use Rattle.space_core.specs.Changes.{with_take_back}
use Rattle.space_core.specs.Windows.{byte_at}
use Rattle.buddy_core.specs.Content as buddies
use Rattle.buddy_core.proofs.Holdings.{own_holding}
use Rattle.slab_tables.specs.Content.{Content, layout_numbers}
use Rattle.machine_changes.specs.Shows.{frame_under, machine_frame_of, has_slab, ShowsMachine}
use Rattle.machine_changes.specs.Steady.{IsSteady}
use Rattle.machine_changes.specs.Keeps.{Keeps}
use Rattle.machine_changes.proofs.SlabFacts.{some_slab}
use Rattle.machine_changes.specs.Slots.{HoldTogether, TakenBackShows}
use Rattle.machine_changes.proofs.SlotLists.{has_less, less_still_rises}
use Rattle.machine_changes.proofs.SlotPartsAgree.{IsLocal, agree_of, keeps_untabled}
use Rattle.machine_changes.proofs.NoSlabOnUnowned.{steady_of, tenant_of}
use Rattle.machine_changes.proofs.SlotChanged.{IsReslotted, slot_by_unit, mine_agreed, reslotted_shows}
use Rattle.machine_changes.proofs.SlotHoldings.{slots_with, slot_below}

-- if slot u has frame f, the block that is the whole slot u contains f
in_slot : (top u f : ℕ) → f / 2 ^ top ≡ u → HasFrame (slot_block top u) f
in_slot top u f e =
    let split : f / 2 ^ top * 2 ^ top + f % 2 ^ top ≡ f = div-add-mod' f (2 ^ top) in
    let below : f % 2 ^ top < 2 ^ top = mod_below f (2 ^ top) (pow_pos top) in
    let same : f / 2 ^ top * 2 ^ top ≡ u * 2 ^ top = ap (λ n. n * 2 ^ top) e in
    (omega arith, omega arith)

module _ (r : spaces.Content) (b : buddies.Content) (s : Content) (t u m : ℕ) (h : HoldTogether r b s) (tenant : t < length r.slots)
    (here : spaces.superblock_at r.slots t u ≡ Some m)
    (idle : HasTaken (buddies.taken_of (buddies.holding_of t b)) (slot_block b.top u) → ⊥) where
  abbrev r' : spaces.Content
  r' = with_take_back r t u m

  abbrev held : buddies.Holding
  held = buddies.without_slot u (buddies.holding_of t b)

  abbrev b' : buddies.Content
  b' = buddies.with_holding t held b

  slots_now : (v : ℕ) → spaces.superblock_at r'.slots t v ≡ cond (eqb v u) None (spaces.superblock_at r.slots t v)
  slots_now v = h.space.own_slots.take_back t u m here v

  -- no slab begins in slot u, because the slab's first frame would be taken, and slot u has no taken frame
  no_slab : (f : ℕ) → f / 2 ^ s.top ≡ u → has_slab s (machine_frame_of s.top r.slots t f) ≡ false
  no_slab f e = false_from_ne_true (has_slab s (machine_frame_of s.top r.slots t f)) (λ has.
      let st : IsSteady r b s t = steady_of r b s h t tenant in
      let is = some_slab r b s t st f has in
      let k : ℕ = (layout_numbers is.cache).order in
      idle (
        f,
        subst (λ top. HasFrame (slot_block top u) f) (sym h.agree.order) (in_slot s.top u f e),
        (f, k, (st.stands is.number f is.machine_frame is.cache is.slab).taken, has_first (block f k)),
      ))

  reslotted : IsReslotted r r' b b' s t u None None
  reslotted = record {
    slots = slots_now;
    bytes = λ place. h.space.own_bytes.take_back t u m here place
        ∙ ap (λ v. cond (eqb v u) None (byte_at r t place)) (slot_by_unit r.unit s.top place h.agree.unit);
    taken = λ f. ap (λ x. buddies.taken_of x f) (own_holding t held b (tenant_of r b s h t tenant));
    was_bare = no_slab;
    is_bare = λ f e.
        ap (λ o. has_slab s (frame_under s.top f o))
        (slots_now (f / 2 ^ s.top) ∙ ap (λ v. cond v None (spaces.superblock_at r.slots t (f / 2 ^ s.top))) (eq-eqb (f / 2 ^ s.top) u e));
  }

  pub others_kept : (v : ℕ) → v ≢ t → Keeps r r' b b' s s v
  others_kept v differ = keeps_untabled r r' b held s t v differ (h.space.others.take_back t u m v differ)

  pub local : IsLocal r r' b held s s t
  local = record {
    unit = refl;
    superblocks = length-set r.owners m None;
    rows = length-set r.slots t _;
    top = refl;
    machine_frames = refl;
    tables = refl;
    others = others_kept;
    slots = λ v. slots_with r b s h t u v None tenant (slot_below r b s h t u m tenant here) ∙ sym (slots_now v);
    cached = λ i differ. refl;
    placed = λ n head key place differ. place;
    mine = mine_agreed r r' b b' s t u None None reslotted h.slabs h.agree;
  }

  pub machine_now : (x : Machine) → ShowsMachine r b s t x → ShowsMachine r' b' s t (after_take_back s.top u x)
  unfolding after_take_back
  machine_now x shown =
      reslotted_shows r r' b b' s t u None None reslotted (steady_of r b s h t tenant) x (filter (λ v. not (eqb v u)) x.slots)
      (less_still_rises u x.slots shown.slots_rise) (λ v. has_less u x.slots v) refl shown

pub taken_back_shows : TakenBackShows
taken_back_shows r b s t u m h tenant here idle = record {
  agree = agree_of r (with_take_back r t u m) b (buddies.without_slot u (buddies.holding_of t b)) s s t
      (local r b s t u m h tenant here idle) h.slabs h.agree (tenant_of r b s h t tenant);
  others = others_kept r b s t u m h tenant here idle;
  shows = machine_now r b s t u m h tenant here idle;
}
