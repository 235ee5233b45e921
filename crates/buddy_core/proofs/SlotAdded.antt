-- After a superblock in no slot is put into an empty slot of a tenant, the tenant's invariants hold, and contracts see the
-- superblock in the slot.
use Rattle.std.proofs.Common.{◌≡◌, ◌⊎◌, inl, inr, sym, ◌∙◌, ap, subst, ℕ, ◌+◌, ◌*◌, ◌/◌, ◌%◌, ◌^◌, ◌<◌, ◌≤◌, true, Option, Some, None, List, length, get_or, set, arith, length-set}
use Rattle.std.specs.Prelude.{slice_index, is_some}
use Rattle.std.proofs.lemmas.List.{get_or-set_same, get_or-set_other}
use Rattle.std.proofs.lemmas.Option.{none-some, same_Some}
use Rattle.std.proofs.lemmas.Nat.{div-mul-add, pow_pos}
use Rattle.std.proofs.Math.Nat.{mul-div_cancel}
use Rattle.std.proofs.lemmas.Bool.{cases_eq, both_ways}
use Rattle.model_core.specs.Blocks.{block, Taken, IsSound}
use Rattle.model_core.specs.Choice.{is_available, is_free, count_below}
use Rattle.model_core.proofs.BuddyJoins.{grant_stays_sound}
use Rattle.model_core.proofs.Lists.{everywhere}
use Rattle.buddy_core.specs.Tree.{Shows}
use Rattle.buddy_core.specs.Stored.{StoredSuperblock, StoredTenant, superblock_of, stored_tenant, superblock_at, held_by, order_under, taken_by, holding_shown}
use Rattle.buddy_core.specs.Kept.{IsKept, IsTenantKept, available_in}
use Rattle.buddy_core.proofs.ContentShown.{bare_of}
use Rattle.buddy_core.proofs.ExactSummaries.{IsNoted, source_here}
use Rattle.buddy_core.proofs.TenantChanged.{IsChange}
use Rattle.buddy_core.proofs.FreeBlockCounts.{count_kept, count_split}
use Rattle.buddy_core.proofs.TreeSlots.{shows_same}
use Rattle.buddy_core.proofs.SlotSteps.{IsOneMore, IsSlotStep, slot_out, available_there, taken_same, taken_blocks_same, holding_same, shows_other, begins_in}

module _ (top : ℕ) (superblocks : List StoredSuperblock) (tenants : List StoredTenant) (kept : IsKept top superblocks tenants) (t : ℕ) (listed : t < length tenants) (slot m : ℕ)
    (slot_lt : slot < length superblocks) (m_lt : m < length superblocks) (empty : superblock_at (stored_tenant t tenants) slot ≡ None) (unused : (v w : ℕ) → superblock_at (stored_tenant v tenants) w ≡ Some m → ⊥)
    (s : StoredSuperblock) (s_order : s.tree.order ≡ (superblock_of m superblocks).tree.order) (s_orders : s.orders ≡ (superblock_of m superblocks).orders) (s_words : Shows top (λ _. true) s.tree.words) where
  -- tenant t with superblock m in the slot, and with one more free block of order `top` in its counts
  abbrev pub granted : StoredTenant
  granted = record (stored_tenant t tenants) { slots = set (stored_tenant t tenants).slots slot (Some m); free = set (stored_tenant t tenants).free top (slice_index (stored_tenant t tenants).free top + 1) }

  abbrev taken : Taken
  taken = taken_by top superblocks (stored_tenant t tenants)

  mine : IsTenantKept top superblocks (stored_tenant t tenants)
  mine = kept.each t listed

  slot_in : slot < length (stored_tenant t tenants).slots
  slot_in = subst (λ n. slot < n) (sym mine.sizes.slots) slot_lt

  slot_here : superblock_at granted slot ≡ Some m
  slot_here = get_or-set_same (stored_tenant t tenants).slots slot (Some m) None slot_in

  slot_other : (v : ℕ) → (v ≡ slot → ⊥) → superblock_at granted v ≡ superblock_at (stored_tenant t tenants) v
  slot_other v ne = get_or-set_other (stored_tenant t tenants).slots slot v (Some m) None ne

  none_in : (y : ℕ) → get_or s.orders y None ≡ None
  none_in y = ap (λ (os : List (Option ℕ)). get_or os y None) (s_orders ∙ ap (λ (z : StoredSuperblock). z.orders) (kept.bare m m_lt unused)) ∙ everywhere None (2 ^ top) y

  step : IsSlotStep top superblocks (stored_tenant t tenants) m slot s granted
  step = record {
    inside = slot_in;
    size = length-set (stored_tenant t tenants).slots slot (Some m);
    others = slot_other;
    apart = λ v ne at. unused t v at;
    none_before = λ g e. ap (λ o. order_under superblocks o (g % 2 ^ top)) (ap (superblock_at (stored_tenant t tenants)) e ∙ empty);
    none_after = λ g e. ap (λ o. order_under (set superblocks m s) o (g % 2 ^ top)) (ap (superblock_at granted) e ∙ slot_here)
        ∙ ap (λ (z : StoredSuperblock). get_or z.orders (g % 2 ^ top) None) (get_or-set_same superblocks m s bare_of m_lt) ∙ none_in (g % 2 ^ top);
  }

  held_other : (v : ℕ) → (v ≡ slot → ⊥) → held_by granted v ≡ held_by (stored_tenant t tenants) v
  held_other v ne = ap is_some (slot_other v ne)

  one : IsOneMore top (held_by granted) (held_by (stored_tenant t tenants)) (taken_by top superblocks (stored_tenant t tenants)) slot
  one = record {
    on = ap is_some slot_here;
    off = ap is_some empty;
    others = held_other;
    untaken = λ x e is. both_ways (held_by (stored_tenant t tenants) slot) (ap is_some empty) ((begins_in top (held_by (stored_tenant t tenants)) (taken_by top superblocks (stored_tenant t tenants)) mine.sound x slot e is).4);
  }

  -- if the taken blocks stay the same, the new count for order k is the new number of free blocks of order k
  counted : (k : ℕ) → k ≤ top → (k ≡ top) ⊎ (k ≡ top → ⊥)
      → slice_index (set (stored_tenant t tenants).free top (slice_index (stored_tenant t tenants).free top + 1)) k ≡ count_below (λ f. is_free top (held_by granted) (taken_by top superblocks (stored_tenant t tenants)) (block f k)) (length superblocks * 2 ^ top)
  counted k le (inl e) =
      let size = mine.sizes.free in
      let written = ap (λ n. get_or (set (stored_tenant t tenants).free top (slice_index (stored_tenant t tenants).free top + 1)) n 0) e ∙ get_or-set_same (stored_tenant t tenants).free top (slice_index (stored_tenant t tenants).free top + 1) 0 (omega arith) in
      let was = mine.free top (omega arith) in
      let change = count_split top (held_by granted) (held_by (stored_tenant t tenants)) taken taken (slot * 2 ^ top) top top (length superblocks)
      (slot_out top (held_by granted) (held_by (stored_tenant t tenants)) (taken_by top superblocks (stored_tenant t tenants)) slot one) first_slot in
      let same = ap (λ n. count_below (λ f. is_free top (held_by granted) (taken_by top superblocks (stored_tenant t tenants)) (block f n)) (length superblocks * 2 ^ top)) e in
      written ∙ (let now : slice_index (stored_tenant t tenants).free top + 1 ≡ count_below (λ f. is_free top (held_by granted) (taken_by top superblocks (stored_tenant t tenants)) (block f top)) (length superblocks * 2 ^ top) = omega arith in now) ∙ sym same
    where
      first_slot : slot * 2 ^ top / 2 ^ top < length superblocks
      first_slot = subst (λ n. n < length superblocks) (sym (mul-div_cancel slot (pow_pos top))) slot_lt
  counted k le (inr ne) =
      get_or-set_other (stored_tenant t tenants).free top k (slice_index (stored_tenant t tenants).free top + 1) 0 ne
      ∙ mine.free k le
      ∙ count_kept top (held_by granted) (held_by (stored_tenant t tenants)) taken taken (slot * 2 ^ top) top top (length superblocks)
      (slot_out top (held_by granted) (held_by (stored_tenant t tenants)) (taken_by top superblocks (stored_tenant t tenants)) slot one) first_slot k (inl (omega arith))
    where
      first_slot : slot * 2 ^ top / 2 ^ top < length superblocks
      first_slot = subst (λ n. n < length superblocks) (sym (mul-div_cancel slot (pow_pos top))) slot_lt

  shown : (v i : ℕ) → superblock_at granted v ≡ Some i → (v ≡ slot) ⊎ (v ≡ slot → ⊥) → Shows top (available_in top (set superblocks m s) granted v) (superblock_of i (set superblocks m s)).tree.words
  shown v i at (inl e) =
      let i_is : i ≡ m = same_Some i m (sym at ∙ ap (superblock_at granted) e ∙ slot_here) in
      subst (λ n. Shows top (available_in top (set superblocks m s) granted n) (superblock_of i (set superblocks m s)).tree.words) (sym e)
      (subst (λ n. Shows top (available_in top (set superblocks m s) granted slot) (superblock_of n (set superblocks m s)).tree.words) (sym i_is)
      (subst (λ (z : StoredSuperblock). Shows top (available_in top (set superblocks m s) granted slot) z.tree.words) (sym (get_or-set_same superblocks m s bare_of m_lt))
      (subst (λ (T : Taken). Shows top (λ y. is_available top (held_by granted) T (slot * 2 ^ top + y)) s.tree.words) (sym (taken_same top superblocks (stored_tenant t tenants) m slot s granted step))
      (shows_same (λ _. true) _ top s.tree.words s_words
      (λ y lt. sym (available_there top (held_by granted) (held_by (stored_tenant t tenants)) (taken_by top superblocks (stored_tenant t tenants)) slot one (slot * 2 ^ top + y) (div-mul-add slot (2 ^ top) y lt)))))))
  shown v i at (inr ne) =
      let was = sym (slot_other v ne) ∙ at in
      shows_other top superblocks (stored_tenant t tenants) m slot s granted step held_other v i ne was (mine.shows v i was)

  within : (v i : ℕ) → superblock_at granted v ≡ Some i → (v ≡ slot) ⊎ (v ≡ slot → ⊥) → i < length superblocks
  within v i at (inl e) = subst (λ n. n < length superblocks) (same_Some m i (sym (ap (superblock_at granted) e ∙ slot_here) ∙ at)) m_lt
  within v i at (inr ne) = mine.within v i (sym (slot_other v ne) ∙ at)

  more : (u : ℕ) → held_by (stored_tenant t tenants) u ≡ true → (u ≡ slot) ⊎ (u ≡ slot → ⊥) → held_by granted u ≡ true
  more u e (inl same) = ap (held_by granted) same ∙ ap is_some slot_here
  more u e (inr ne) = held_other u ne ∙ e

  tenant_kept : IsTenantKept top (set superblocks m s) granted
  tenant_kept = record {
    sizes = record {
      slots = length-set (stored_tenant t tenants).slots slot (Some m) ∙ mine.sizes.slots ∙ sym (length-set superblocks m s);
      free = length-set (stored_tenant t tenants).free top (slice_index (stored_tenant t tenants).free top + 1) ∙ mine.sizes.free;
      taken = mine.sizes.taken;
    };
    within = λ v i at. subst (λ n. i < n) (sym (length-set superblocks m s)) (within v i at (cases_eq v slot));
    sound = subst (λ (T : Taken). IsSound top (held_by granted) T) (sym (taken_same top superblocks (stored_tenant t tenants) m slot s granted step))
        (grant_stays_sound top (held_by (stored_tenant t tenants)) (held_by granted) (taken_by top superblocks (stored_tenant t tenants)) mine.sound (λ u e. more u e (cases_eq u slot)));
    shows = λ v i at. shown v i at (cases_eq v slot);
    free = λ k le. counted k le (cases_eq k top)
        ∙ ap (λ (T : Taken). count_below (λ f. is_free top (held_by granted) T (block f k)) (length superblocks * 2 ^ top)) (sym (taken_same top superblocks (stored_tenant t tenants) m slot s granted step))
        ∙ ap (λ n. count_below (λ f. is_free top (held_by granted) (taken_by top (set superblocks m s) granted) (block f k)) (n * 2 ^ top)) (sym (length-set superblocks m s));
    taken = λ k le. mine.taken k le ∙ sym (taken_blocks_same top superblocks (stored_tenant t tenants) m slot s granted step k);
  }

  own : (u w i : ℕ) → superblock_at granted u ≡ Some i → superblock_at granted w ≡ Some i → (u ≡ slot) ⊎ (u ≡ slot → ⊥) → (w ≡ slot) ⊎ (w ≡ slot → ⊥) → u ≡ w
  own u w i a b (inl e) (inl d) = e ∙ sym d
  own u w i a b (inl e) (inr d) = absurd (unused t w (sym (slot_other w d) ∙ b ∙ sym a ∙ ap (superblock_at granted) e ∙ slot_here))
  own u w i a b (inr e) (inl d) = absurd (unused t u (sym (slot_other u e) ∙ a ∙ sym b ∙ ap (superblock_at granted) d ∙ slot_here))
  own u w i a b (inr e) (inr d) = (kept.apart t u t w i (sym (slot_other u e) ∙ a) (sym (slot_other w d) ∙ b)).1

  had : (u i : ℕ) → superblock_at granted u ≡ Some i → (i ≡ m → ⊥) → (u ≡ slot) ⊎ (u ≡ slot → ⊥) → (w : ℕ) × (superblock_at (stored_tenant t tenants) w ≡ Some i)
  had u i at ne (inl e) = absurd (ne (same_Some i m (sym at ∙ ap (superblock_at granted) e ∙ slot_here)))
  had u i at ne (inr off) = (u, sym (slot_other u off) ∙ at)

  has : (u i : ℕ) → superblock_at (stored_tenant t tenants) u ≡ Some i → (u ≡ slot) ⊎ (u ≡ slot → ⊥) → (w : ℕ) × (superblock_at granted w ≡ Some i)
  has u i at (inl e) = absurd (none-some i (sym empty ∙ ap (superblock_at (stored_tenant t tenants)) (sym e) ∙ at))
  has u i at (inr off) = (u, slot_other u off ∙ at)

  pub grant_change : IsChange top superblocks tenants t m s granted
  grant_change = record {
    listed = listed;
    superblock = m_lt;
    order = s_order ∙ kept.order m m_lt;
    kept = tenant_kept;
    others = λ v w ne at. unused v w at;
    own = λ u w i a b. own u w i a b (cases_eq u slot) (cases_eq w slot);
    had = λ u i at ne. had u i at ne (cases_eq u slot);
    has = λ u i at ne. has u i at (cases_eq u slot);
    left = λ gone. absurd (gone slot slot_here);
  }

  pub grant_holding : holding_shown top (set superblocks m s) granted ≡ record (holding_shown top superblocks (stored_tenant t tenants)) { slots = set (stored_tenant t tenants).slots slot (Some m) }
  grant_holding = holding_same top superblocks (stored_tenant t tenants) m slot s granted step

  -- the grant is noted with the new root word of the superblock
  pub grant_noted : (word : ℕ) → slice_index s.tree.words 0 ≡ word → IsNoted superblocks tenants t m slot s granted word
  grant_noted word root = record {
    listed = listed;
    slots = length-set (stored_tenant t tenants).slots slot (Some m);
    free = length-set (stored_tenant t tenants).free top (slice_index (stored_tenant t tenants).free top + 1);
    others = λ v u ne at. unused v u at;
    same = slot_other;
    apart = λ u ne at. unused t u (sym (slot_other u ne) ∙ at);
    here = λ j. source_here superblocks m s (superblock_at granted slot) j word slot_here m_lt root;
  }
