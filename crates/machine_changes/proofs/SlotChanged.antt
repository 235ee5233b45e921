-- If a slot without slabs gets or loses a superblock, only this slot and its bytes change in the machine that the parts show.
use Rattle.std.proofs.Common.{◌≡◌, ◌≢◌, ℕ, ◌+◌, ◌*◌, ◌/◌, ◌^◌, ◌<◌, Bool, true, false, cond, eqb, List, Some, None, refl, sym, ap, ◌∙◌, subst, ⊎_elim, arith}
use Rattle.std.specs.Prelude.{Option, is_some}
use Rattle.std.proofs.lemmas.Bool.{false≢true, ne_eqb, cases_eq}
use Rattle.std.proofs.lemmas.Nat.{div-mul-add}
use Rattle.std.proofs.Math.Nat.{div-div-eq-div-mul}
use Rattle.model_core.specs.Machine.{Machine, slot_of}
use Rattle.model_core.specs.WellFormed.{RisesFrom}
use Rattle.model_core.specs.declared.limits.TheConstants.{MAX_CACHES}
use Rattle.model_core.proofs.RisingLists.{has}
use Rattle.klist_core.specs.Places.{place_at}
use Rattle.space_core.specs.Content as spaces
use Rattle.space_core.specs.Windows.{byte_at}
use Rattle.buddy_core.specs.Content as buddies
use Rattle.slab_tables.specs.declared.cache.Cache as own
use Rattle.slab_tables.specs.Content.{Content, IsSlabs, kept_at, cache_at, cache_in, index_of_cache}
use Rattle.machine_changes.specs.Shows.{frame_under, machine_frame_of, byte_or_zero, record_byte, slab_at, has_slab, IsSlab, ShowsMachine, IsAgreed, Agree}
use Rattle.machine_changes.specs.Steady.{IsSteady}
use Rattle.machine_changes.proofs.Lookups.{through}
use Rattle.machine_changes.proofs.SlabFacts.{has_it, same_slab, live_stays, no_slab_under, slot_inside}
use Rattle.machine_changes.proofs.SlotPartsAgree.{agreed_still}

-- dividing a place by the size of a superblock in bytes gives the slot of the place
pub slot_by_unit : (unit top place : ℕ) → unit ≡ 4096 * 2 ^ top → place / unit ≡ slot_of top place
slot_by_unit unit top place e = ap (λ n. place / n) e ∙ sym (div-div-eq-div-mul place 4096 (2 ^ top))

-- a control record lies in the slot of its frame
pub record_slot : (top f j : ℕ) → j < 32 → slot_of top (4096 * f + 4064 + j) ≡ f / 2 ^ top
record_slot top f j less =
    let here : (4096 * f + 4064 + j) / 4096 ≡ f = ap (λ x. x / 4096) (omega arith) ∙ div-mul-add f 4096 (4064 + j) (omega arith) in
    ap (λ x. x / 2 ^ top) here

-- Slot u of tenant t now has the superblock `under`, or none if `under` is None. Each place of the slot now has the byte `byte`,
-- or none if `byte` is None. All else that the tenant has is unchanged. No slab lies in the slot, before or after.
pub record IsReslotted (r r' : spaces.Content) (b b' : buddies.Content) (s : Content) (t u : ℕ) (under byte : Option ℕ) : Type 0 where
  pub slots : (v : ℕ) → spaces.superblock_at r'.slots t v ≡ cond (eqb v u) under (spaces.superblock_at r.slots t v)
  pub bytes : (place : ℕ) → byte_at r' t place ≡ cond (eqb (slot_of s.top place) u) byte (byte_at r t place)
  pub taken : (f : ℕ) → buddies.taken_of (buddies.holding_of t b') f ≡ buddies.taken_of (buddies.holding_of t b) f
  pub was_bare : (f : ℕ) → f / 2 ^ s.top ≡ u → has_slab s (machine_frame_of s.top r.slots t f) ≡ false
  pub is_bare : (f : ℕ) → f / 2 ^ s.top ≡ u → has_slab s (machine_frame_of s.top r'.slots t f) ≡ false

module _ (r r' : spaces.Content) (b b' : buddies.Content) (s : Content) (t u : ℕ) (under byte : Option ℕ)
    (k : IsReslotted r r' b b' s t u under byte) where
  machine_frame_same : (f : ℕ) → f / 2 ^ s.top ≢ u → machine_frame_of s.top r'.slots t f ≡ machine_frame_of s.top r.slots t f
  machine_frame_same f differ =
      ap (frame_under s.top f)
      (k.slots (f / 2 ^ s.top) ∙ ap (λ v. cond v under (spaces.superblock_at r.slots t (f / 2 ^ s.top))) (ne_eqb (f / 2 ^ s.top) u differ))

  has_same : (f : ℕ) → has_slab s (machine_frame_of s.top r'.slots t f) ≡ has_slab s (machine_frame_of s.top r.slots t f)
  has_same f = ⊎_elim (λ e. k.is_bare f e ∙ sym (k.was_bare f e)) (λ differ. ap (has_slab s) (machine_frame_same f differ)) (cases_eq (f / 2 ^ s.top) u)

  record_same : (f j : ℕ) → f / 2 ^ s.top ≢ u → j < 32 → record_byte r' t f j ≡ record_byte r t f j
  record_same f j differ less =
      let place : ℕ = 4096 * f + 4064 + j in
      ap byte_or_zero (k.bytes place
      ∙ ap (λ v. cond v byte (byte_at r t place)) (ne_eqb (slot_of s.top place) u (λ e. differ (sym (record_slot s.top f j less) ∙ e))))

  -- the parts still agree on the tenant's slabs
  pub mine_agreed : IsSlabs s → Agree r b s → (n head key : ℕ) (cache : own.Cache) → place_at s.lists.places n ≡ Some (head, key)
      → cache_in s.caches (head / 3) ≡ Some cache → head / 3 / MAX_CACHES ≡ t → IsAgreed r' b' s n head key cache
  mine_agreed w a n head key cache placed cached is =
      let agreed : IsAgreed r b s n head key cache = a.slabs n head key cache placed cached in
      let under_key : machine_frame_of s.top r.slots t key ≡ Some n = subst (λ x. machine_frame_of s.top r.slots x key ≡ Some n) is agreed.under in
      let differ : key / 2 ^ s.top ≢ u = λ e. false≢true (sym (k.was_bare key e) ∙ ap (has_slab s) under_key ∙ ap is_some placed) in
      agreed_still r r' b b' s s n n head key cache ((w.fits (head / 3) cache cached).layout.fits 0).few agreed
      (subst (λ x. machine_frame_of s.top r'.slots x key ≡ Some n) (sym is) (machine_frame_same key differ ∙ under_key))
      (subst (λ x. buddies.taken_of (buddies.holding_of x b') key ≡ buddies.taken_of (buddies.holding_of x b) key) (sym is) (k.taken key))
      refl
      (λ j less. subst (λ x. record_byte r' x key j ≡ record_byte r x key j) (sym is) (record_same key j differ less))

  slab_is : (c f n : ℕ) (cache : own.Cache) → IsSlab r s t c f n cache → IsSlab r' s t c f n cache
  slab_is c f n cache q =
      let differ : f / 2 ^ s.top ≢ u = λ e. false≢true (sym (k.was_bare f e) ∙ has_it r s t c f n cache q) in
      record { cached = q.cached; under = machine_frame_same f differ ∙ q.under; listed = q.listed }

  -- each slab lies in a slot other than u
  slab_elsewhere : (c f n : ℕ) (cache : own.Cache) → IsSlab r' s t c f n cache → f / 2 ^ s.top ≢ u
  slab_elsewhere c f n cache q e = false≢true (sym (k.is_bare f e) ∙ has_it r' s t c f n cache q)

  slab_was : (c f n : ℕ) (cache : own.Cache) → IsSlab r' s t c f n cache → IsSlab r s t c f n cache
  slab_was c f n cache q = record {
    cached = q.cached;
    under = sym (machine_frame_same f (slab_elsewhere c f n cache q)) ∙ q.under;
    listed = q.listed;
  }

  module _ (st : IsSteady r b s t) where
    slab_same : (c f : ℕ) (cache : own.Cache) → cache_at s t c ≡ Some cache → slab_at r' s t c cache f ≡ slab_at r s t c cache f
    slab_same c f cache cached = ⊎_elim
        (λ e. no_slab_under r' s t (index_of_cache t c) cache f (machine_frame_of s.top r'.slots t f) (k.is_bare f e)
        ∙ sym (no_slab_under r s t (index_of_cache t c) cache f (machine_frame_of s.top r.slots t f) (k.was_bare f e)))
        (λ differ. same_slab r r' s s t c f cache (machine_frame_same f differ) (λ n under. refl)
        (λ n under listed. (
          refl,
          live_stays r b s t st r' (kept_at s.kept n) c f n cache (record { cached = cached; under = under; listed = listed })
              (λ small j less. record_same f j differ less),
        )))
        (cases_eq (f / 2 ^ s.top) u)

    -- the parts show the old machine with these slots, and with `byte` at each place of slot u
    pub reslotted_shows : (m : Machine) (slots : List ℕ) → RisesFrom 0 slots
        → ((v : ℕ) → has v slots ≡ cond (eqb v u) (is_some under) (has v m.slots)) → is_some byte ≡ is_some under
        → ShowsMachine r b s t m
        → ShowsMachine r' b' s t (record m { slots = slots; bytes = λ place. cond (eqb (slot_of s.top place) u) byte (m.bytes place) })
    reslotted_shows m slots rises held same h = record {
      slots_rise = rises;
      slots = λ v. held v ∙ ap (cond (eqb v u) (is_some under)) (h.slots v)
          ∙ sym (ap is_some (k.slots v) ∙ through is_some (eqb v u) under (spaces.superblock_at r.slots t v));
      blocks_rise = h.blocks_rise;
      blocks = λ f. h.blocks f
          ∙ ap (λ v. cond v None (buddies.taken_of (buddies.holding_of t b) f)) (sym (has_same f))
          ∙ ap (cond (has_slab s (machine_frame_of s.top r'.slots t f)) None) (sym (k.taken f));
      caches_rise = h.caches_rise;
      caches = h.caches;
      slabs_rise = h.slabs_rise;
      slabs = λ c f x cache ex cached. h.slabs c f x cache ex cached ∙ sym (slab_same c f cache cached);
      mapped = λ place out.
          let v : Bool = eqb (slot_of s.top place) u in
          through is_some v byte (m.bytes place)
          ∙ ap (cond v (is_some byte)) (h.mapped place (λ c f n cache q. out c f n cache (slab_is c f n cache q)))
          ∙ ap (λ x. cond v x (has (slot_of s.top place) m.slots)) same
          ∙ sym (held (slot_of s.top place));
      in_slab = λ place c f n cache q inside.
          let was = slab_was c f n cache q in
          let differ : slot_of s.top place ≢ u = λ e. slab_elsewhere c f n cache q (sym (slot_inside r b s t place c f n cache st was inside) ∙ e) in
          ap (λ v. is_some (cond v byte (m.bytes place))) (ne_eqb (slot_of s.top place) u differ)
          ∙ h.in_slab place c f n cache was inside;
      bytes = λ place x e. k.bytes place ∙ byte_now place x (eqb (slot_of s.top place) u) e;
    }
      where
        byte_now : (place x : ℕ) (v : Bool) → cond v byte (m.bytes place) ≡ Some x → cond v byte (byte_at r t place) ≡ Some x
        byte_now place x true e = e
        byte_now place x false e = h.bytes place x e
