-- After a superblock without an owner is put into the lowest slot that a tenant does not hold, the parts show `after_grant` of
-- the tenant's old machine.
use Rattle.std.proofs.Common.{◌≡◌, ◌≢◌, ℕ, ◌/◌, ◌%◌, ◌^◌, ◌<◌, false, cond, eqb, length, Some, None, refl, sym, ap, ◌∙◌, subst}
use Rattle.std.specs.Prelude.{is_some}
use Rattle.std.proofs.lemmas.Bool.{eq-eqb}
use Rattle.std.proofs.lemmas.List.{length-set}
use Rattle.std.proofs.lemmas.Nat.{mod_below, pow_pos}
use Rattle.model_core.specs.Machine.{Machine, put_rising, slot_of}
use Rattle.model_core.specs.Operations.{next_slot, after_grant}
use Rattle.model_core.specs.Owners.{owned_by}
use Rattle.model_core.proofs.RisingLists.{has}
use Rattle.space_core.specs.Content as spaces
use Rattle.space_core.specs.Changes.{IsLeastSlot, with_grant}
use Rattle.space_core.specs.Windows.{byte_at}
use Rattle.buddy_core.specs.Content as buddies
use Rattle.buddy_core.proofs.Holdings.{own_holding}
use Rattle.slab_tables.specs.Content.{Content}
use Rattle.machine_changes.specs.Shows.{frame_under, has_slab, ShowsMachine}
use Rattle.machine_changes.specs.Keeps.{Keeps}
use Rattle.machine_changes.specs.Slots.{HoldTogether, GrantedShows}
use Rattle.machine_changes.proofs.SlotLists.{has_put, put_still_rises}
use Rattle.machine_changes.proofs.NextSlot.{next_meets}
use Rattle.machine_changes.proofs.SlotPartsAgree.{IsLocal, agree_of, keeps_untabled}
use Rattle.machine_changes.proofs.SlotChanged.{IsReslotted, slot_by_unit, mine_agreed, reslotted_shows}
use Rattle.machine_changes.proofs.NoSlabOnUnowned.{steady_of, tenant_of, unowned_bare}
use Rattle.machine_changes.proofs.SlotHoldings.{slots_with}

module _ (r : spaces.Content) (b : buddies.Content) (s : Content) (t u m : ℕ) (h : HoldTogether r b s) (tenant : t < length r.slots)
    (least : IsLeastSlot r.slots t u) (slot : u < length r.owners) (superblock : m < length r.owners) (free : spaces.owner_at r.owners m ≡ None) where
  abbrev r' : spaces.Content
  r' = with_grant r t u m

  abbrev held : buddies.Holding
  held = buddies.with_slot u m (buddies.holding_of t b)

  abbrev b' : buddies.Content
  b' = buddies.with_holding t held b

  slots_now : (v : ℕ) → spaces.superblock_at r'.slots t v ≡ cond (eqb v u) (Some m) (spaces.superblock_at r.slots t v)
  slots_now v = h.space.own_slots.grant t u m tenant slot v

  reslotted : IsReslotted r r' b b' s t u (Some m) (Some 0)
  reslotted = record {
    slots = slots_now;
    bytes = λ place. h.space.own_bytes.grant t u m tenant slot superblock free place
        ∙ ap (λ v. cond (eqb v u) (Some 0) (byte_at r t place)) (slot_by_unit r.unit s.top place h.agree.unit);
    taken = λ f. ap (λ x. buddies.taken_of x f) (own_holding t held b (tenant_of r b s h t tenant));
    was_bare = λ f e. ap (λ o. has_slab s (frame_under s.top f o)) (ap (spaces.superblock_at r.slots t) e ∙ least.vacant);
    is_bare = λ f e.
        ap (λ o. has_slab s (frame_under s.top f o))
        (slots_now (f / 2 ^ s.top) ∙ ap (λ v. cond v (Some m) (spaces.superblock_at r.slots t (f / 2 ^ s.top))) (eq-eqb (f / 2 ^ s.top) u e))
        ∙ ap is_some (unowned_bare r b s h m (f % 2 ^ s.top) free (mod_below f (2 ^ s.top) (pow_pos s.top)));
  }

  pub others_kept : (v : ℕ) → v ≢ t → Keeps r r' b b' s s v
  others_kept v differ = keeps_untabled r r' b held s t v differ (h.space.others.grant t u m v free differ)

  pub local : IsLocal r r' b held s s t
  local = record {
    unit = refl;
    superblocks = length-set r.owners m (Some (owned_by t u));
    rows = length-set r.slots t _;
    top = refl;
    machine_frames = refl;
    tables = refl;
    others = others_kept;
    slots = λ v. slots_with r b s h t u v (Some m) tenant slot ∙ sym (slots_now v);
    cached = λ i differ. refl;
    placed = λ n head key place differ. place;
    mine = mine_agreed r r' b b' s t u (Some m) (Some 0) reslotted h.slabs h.agree;
  }

  pub machine_now : (x : Machine) → ShowsMachine r b s t x → ShowsMachine r' b' s t (after_grant s.top x)
  unfolding after_grant
  machine_now x shown =
      let next : next_slot x ≡ u = next_meets r b s t u x shown least in
      let missing : has u x.slots ≡ false = shown.slots u ∙ ap is_some least.vacant in
      subst (λ (n : ℕ). ShowsMachine r' b' s t
      (record x { slots = put_rising (λ v. v) n x.slots; bytes = λ place. cond (eqb (slot_of s.top place) n) (Some 0) (x.bytes place) })) (sym next)
      (reslotted_shows r r' b b' s t u (Some m) (Some 0) reslotted (steady_of r b s h t tenant) x (put_rising (λ v. v) u x.slots)
      (put_still_rises u x.slots shown.slots_rise missing) (λ v. has_put u x.slots v missing) refl shown)

pub granted_shows : GrantedShows
granted_shows r b s t u m h tenant least slot superblock free = record {
  agree = agree_of r (with_grant r t u m) b (buddies.with_slot u m (buddies.holding_of t b)) s s t
      (local r b s t u m h tenant least slot superblock free) h.slabs h.agree (tenant_of r b s h t tenant);
  others = others_kept r b s t u m h tenant least slot superblock free;
  shows = machine_now r b s t u m h tenant least slot superblock free;
}
