-- After a slot without a taken frame loses its superblock, its tenant's invariants hold, and contracts see the slot as empty.
use Rattle.std.proofs.Common.{◌≡◌, ◌⊎◌, inl, inr, refl, sym, ◌∙◌, ap, subst, ℕ, ◌+◌, ◌-◌, ◌*◌, ◌/◌, ◌%◌, ◌^◌, ◌<◌, ◌≤◌, ◌==◌, Bool, true, false, Option, Some, None, List, length, get_or, set, arith, length-set}
use Rattle.std.specs.Prelude.{slice_index, is_some}
use Rattle.std.proofs.lemmas.List.{get_or-set_same, get_or-set_other}
use Rattle.std.proofs.lemmas.Option.{none-some, same_Some}
use Rattle.std.proofs.lemmas.Nat.{pow_pos, div-mul-add, mod-mul-add}
use Rattle.std.proofs.lemmas.Nat.Bits.{bit_at-zero}
use Rattle.std.proofs.Math.Nat.{mul-div_cancel}
use Rattle.std.proofs.lemmas.Bool.{cases_Bool, cases_eq}
use Rattle.model_core.specs.Blocks.{block, slot_block, Taken, IsTaken, HasTaken, HasFrame, IsSound}
use Rattle.model_core.specs.Choice.{is_available, is_free, count_below}
use Rattle.model_core.specs.Numbered.{is_clear}
use Rattle.model_core.proofs.BlockHalves.{clear_at, clear_fails}
use Rattle.model_core.proofs.BlocksByNumber.{number_is, number_first, aligned_first, number_of_frame, frame_of_number, available_tells, unavailable_tells}
use Rattle.model_core.proofs.FreeBlocks.{has_first}
use Rattle.model_core.proofs.BuddyJoins.{take_back_stays_sound}
use Rattle.buddy_core.specs.Tree.{Shows}
use Rattle.buddy_core.specs.Stored.{StoredSuperblock, StoredTenant, bare_superblock, superblock_of, stored_tenant, superblock_at, held_by, order_under, taken_by, holding_shown}
use Rattle.buddy_core.specs.Summary.{is_source}
use Rattle.buddy_core.specs.Kept.{IsKept, IsTenantKept, available_in}
use Rattle.buddy_core.proofs.TenantChanged.{IsChange}
use Rattle.buddy_core.proofs.ContentShown.{slot_within}
use Rattle.buddy_core.proofs.ExactSummaries.{IsNoted}
use Rattle.buddy_core.proofs.FreeBlockCounts.{count_kept, count_split}
use Rattle.buddy_core.proofs.TreeNumbers.{number_whole}
use Rattle.buddy_core.proofs.TreeOrders.{orders_clear, orders_whole}
use Rattle.buddy_core.proofs.TreeSearch.{first_word}
use Rattle.buddy_core.proofs.TreeSlots.{shows_same}
use Rattle.buddy_core.proofs.SlotSteps.{IsOneMore, IsSlotStep, slot_out, taken_same, taken_blocks_same, holding_same, shows_other}

module _ (top : ℕ) (held : ℕ → Bool) (taken : Taken) (u : ℕ) (words : List ℕ) (shows : Shows top (λ y. is_available top held taken (u * 2 ^ top + y)) words) where
  in_slot : (x : ℕ) → HasFrame (slot_block top u) x → x / 2 ^ top ≡ u
  in_slot x has = sym (number_is top x) ∙ number_of_frame (u * 2 ^ top) top x (aligned_first u top) has ∙ number_first u top

  -- if the root word is 2 ^ top, every frame of the slot is available
  module _ (root : slice_index words 0 ≡ 2 ^ top) where
    available : (y : ℕ) → y < 2 ^ top → is_available top held taken (u * 2 ^ top + y) ≡ true
    available y small =
        let clear = orders_whole (λ y. is_available top held taken (u * 2 ^ top + y)) top 0 (sym (first_word _ top words shows) ∙ root) in
        clear_at (λ y. is_available top held taken (u * 2 ^ top + y)) top y (ap (is_clear (λ y. is_available top held taken (u * 2 ^ top + y)) top) (number_whole top y small) ∙ clear)

    pub all_available : Shows top (λ _. true) words
    all_available = shows_same _ (λ _. true) top words shows (λ y lt. available y lt)

    -- no frame of the slot is taken
    pub quiet : HasTaken taken (slot_block top u) → ⊥
    quiet (x, has, is) =
        let y = x - u * 2 ^ top in
        let at : u * 2 ^ top + y ≡ x = omega (arith, has.0) in
        (available_tells top held taken x (ap (is_available top held taken) (sym at) ∙ available y (omega (arith, has.1)))).1 is

  -- if the slot is held and its root word is not 2 ^ top, some frame of the slot is taken
  pub busy : held u ≡ true → (slice_index words 0 ≡ 2 ^ top → ⊥) → HasTaken taken (slot_block top u)
  busy on off = go (cases_Bool (is_clear (λ y. is_available top held taken (u * 2 ^ top + y)) top 0))
    where
      go : (is_clear (λ y. is_available top held taken (u * 2 ^ top + y)) top 0 ≡ true) ⊎ (is_clear (λ y. is_available top held taken (u * 2 ^ top + y)) top 0 ≡ false) → HasTaken taken (slot_block top u)
      go (inl clear) = absurd (off (first_word _ top words shows ∙ orders_clear (λ y. is_available top held taken (u * 2 ^ top + y)) top 0 clear))
      go (inr fails) =
          let bad = clear_fails (λ y. is_available top held taken (u * 2 ^ top + y)) top 0 fails in
          let y = bad.0 in
          let zero : y / 2 ^ top ≡ 0 = sym (number_is top y) ∙ bad.1 in
          let has = frame_of_number 0 top y (aligned_zero top) (bad.1 ∙ sym (number_whole top 0 (pow_pos top))) in
          let slot = div-mul-add u (2 ^ top) y (omega (arith, has.1)) in
          (u * 2 ^ top + y, (omega arith, omega (arith, has.1)), unavailable_tells top held taken (u * 2 ^ top + y) (ap held slot ∙ on) bad.2)
        where
          aligned_zero : (k : ℕ) → 0 % 2 ^ k ≡ 0
          aligned_zero k = let e : 0 * 2 ^ k ≡ 0 = omega arith in ap (λ n. n % 2 ^ k) (sym e) ∙ aligned_first 0 k

module _ (top : ℕ) (superblocks : List StoredSuperblock) (tenants : List StoredTenant) (kept : IsKept top superblocks tenants) (t : ℕ) (listed : t < length tenants) (slot m : ℕ)
    (here : superblock_at (stored_tenant t tenants) slot ≡ Some m) (none_taken : HasTaken (taken_by top superblocks (stored_tenant t tenants)) (slot_block top slot) → ⊥) where
  -- tenant t without the slot, and with one free block of order `top` less in its counts
  abbrev pub dropped : StoredTenant
  dropped = record (stored_tenant t tenants) { slots = set (stored_tenant t tenants).slots slot None; free = set (stored_tenant t tenants).free top (slice_index (stored_tenant t tenants).free top - 1) }

  abbrev taken : Taken
  taken = taken_by top superblocks (stored_tenant t tenants)

  mine : IsTenantKept top superblocks (stored_tenant t tenants)
  mine = kept.each t listed

  slot_in : slot < length (stored_tenant t tenants).slots
  slot_in = slot_within (stored_tenant t tenants).slots slot m here

  pub m_lt : m < length superblocks
  m_lt = mine.within slot m here

  slot_here : superblock_at dropped slot ≡ None
  slot_here = get_or-set_same (stored_tenant t tenants).slots slot None None slot_in

  slot_other : (v : ℕ) → (v ≡ slot → ⊥) → superblock_at dropped v ≡ superblock_at (stored_tenant t tenants) v
  slot_other v ne = get_or-set_other (stored_tenant t tenants).slots slot v None None ne

  frame_in : (x : ℕ) → x / 2 ^ top ≡ slot → HasFrame (slot_block top slot) x
  frame_in x e = frame_of_number (slot * 2 ^ top) top x (aligned_first slot top) (number_is top x ∙ e ∙ sym (number_first slot top))

  untaken : (x : ℕ) → x / 2 ^ top ≡ slot → IsTaken (taken_by top superblocks (stored_tenant t tenants)) x → ⊥
  untaken x e is = none_taken (x, frame_in x e, is)

  begins_none : (g : ℕ) → g / 2 ^ top ≡ slot → (o : Option ℕ) → taken_by top superblocks (stored_tenant t tenants) g ≡ o → o ≡ None
  begins_none g e None at = refl
  begins_none g e (Some k) at = absurd (untaken g e (g, k, at, has_first g k))

  -- no order is stored for a frame of the superblock
  pub no_order : (x : ℕ) → x < 2 ^ top → get_or (superblock_of m superblocks).orders x None ≡ None
  no_order x lt =
      let number = div-mul-add slot (2 ^ top) x lt in
      let inside = mod-mul-add slot (2 ^ top) x lt in
      sym (ap (λ n. get_or (superblock_of m superblocks).orders n None) inside)
      ∙ sym (ap (λ o. order_under superblocks o ((slot * 2 ^ top + x) % 2 ^ top)) (ap (superblock_at (stored_tenant t tenants)) number ∙ here))
      ∙ begins_none (slot * 2 ^ top + x) number _ refl

  step : IsSlotStep top superblocks (stored_tenant t tenants) m slot (bare_superblock top) dropped
  step = record {
    inside = slot_in;
    size = length-set (stored_tenant t tenants).slots slot None;
    others = slot_other;
    apart = λ v ne at. ne (kept.apart t v t slot m at here).1;
    none_before = λ g e. begins_none g e _ refl;
    none_after = λ g e. ap (λ o. order_under (set superblocks m (bare_superblock top)) o (g % 2 ^ top)) (ap (superblock_at dropped) e ∙ slot_here);
  }

  held_other : (v : ℕ) → (v ≡ slot → ⊥) → held_by dropped v ≡ held_by (stored_tenant t tenants) v
  held_other v ne = ap is_some (slot_other v ne)

  one : IsOneMore top (held_by (stored_tenant t tenants)) (held_by dropped) (taken_by top superblocks (stored_tenant t tenants)) slot
  one = record {
    on = ap is_some here;
    off = ap is_some slot_here;
    others = λ v ne. sym (held_other v ne);
    untaken = untaken;
  }

  slot_lt : slot < length superblocks
  slot_lt = subst (λ n. slot < n) mine.sizes.slots slot_in

  first_slot : slot * 2 ^ top / 2 ^ top < length superblocks
  first_slot = subst (λ n. n < length superblocks) (sym (mul-div_cancel slot (pow_pos top))) slot_lt

  change_at : count_below (λ f. is_free top (held_by (stored_tenant t tenants)) (taken_by top superblocks (stored_tenant t tenants)) (block f top)) (length superblocks * 2 ^ top)
      ≡ count_below (λ f. is_free top (held_by dropped) (taken_by top superblocks (stored_tenant t tenants)) (block f top)) (length superblocks * 2 ^ top) + 1
  change_at = count_split top (held_by (stored_tenant t tenants)) (held_by dropped) (taken_by top superblocks (stored_tenant t tenants)) (taken_by top superblocks (stored_tenant t tenants)) (slot * 2 ^ top) top top (length superblocks)
      (slot_out top (held_by (stored_tenant t tenants)) (held_by dropped) (taken_by top superblocks (stored_tenant t tenants)) slot one) first_slot

  pub some_free : 0 < slice_index (stored_tenant t tenants).free top
  some_free = let was = mine.free top (omega arith) in let change = change_at in omega arith

  counted : (k : ℕ) → k ≤ top → (k ≡ top) ⊎ (k ≡ top → ⊥)
      → slice_index (set (stored_tenant t tenants).free top (slice_index (stored_tenant t tenants).free top - 1)) k ≡ count_below (λ f. is_free top (held_by dropped) (taken_by top superblocks (stored_tenant t tenants)) (block f k)) (length superblocks * 2 ^ top)
  counted k le (inl e) =
      let size = mine.sizes.free in
      let written = ap (λ n. get_or (set (stored_tenant t tenants).free top (slice_index (stored_tenant t tenants).free top - 1)) n 0) e ∙ get_or-set_same (stored_tenant t tenants).free top (slice_index (stored_tenant t tenants).free top - 1) 0 (omega arith) in
      let was = mine.free top (omega arith) in
      let change = change_at in
      let same = ap (λ n. count_below (λ f. is_free top (held_by dropped) (taken_by top superblocks (stored_tenant t tenants)) (block f n)) (length superblocks * 2 ^ top)) e in
      written ∙ (let now : slice_index (stored_tenant t tenants).free top - 1 ≡ count_below (λ f. is_free top (held_by dropped) (taken_by top superblocks (stored_tenant t tenants)) (block f top)) (length superblocks * 2 ^ top) = omega arith in now) ∙ sym same
  counted k le (inr ne) =
      get_or-set_other (stored_tenant t tenants).free top k (slice_index (stored_tenant t tenants).free top - 1) 0 ne
      ∙ mine.free k le
      ∙ sym (count_kept top (held_by (stored_tenant t tenants)) (held_by dropped) (taken_by top superblocks (stored_tenant t tenants)) (taken_by top superblocks (stored_tenant t tenants)) (slot * 2 ^ top) top top (length superblocks)
      (slot_out top (held_by (stored_tenant t tenants)) (held_by dropped) (taken_by top superblocks (stored_tenant t tenants)) slot one) first_slot k (inl (omega arith)))

  shown : (v i : ℕ) → superblock_at dropped v ≡ Some i → (v ≡ slot) ⊎ (v ≡ slot → ⊥) → Shows top (available_in top (set superblocks m (bare_superblock top)) dropped v) (superblock_of i (set superblocks m (bare_superblock top))).tree.words
  shown v i at (inl e) = absurd (none-some i (sym (ap (superblock_at dropped) e ∙ slot_here) ∙ at))
  shown v i at (inr ne) =
      let was = sym (slot_other v ne) ∙ at in
      shows_other top superblocks (stored_tenant t tenants) m slot (bare_superblock top) dropped step held_other v i ne was (mine.shows v i was)

  within : (v i : ℕ) → superblock_at dropped v ≡ Some i → (v ≡ slot) ⊎ (v ≡ slot → ⊥) → i < length superblocks
  within v i at (inl e) = absurd (none-some i (sym (ap (superblock_at dropped) e ∙ slot_here) ∙ at))
  within v i at (inr ne) = mine.within v i (sym (slot_other v ne) ∙ at)

  fewer : (u : ℕ) → held_by (stored_tenant t tenants) u ≡ true → (u ≡ slot) ⊎ (u ≡ slot → ⊥) → (held_by dropped u ≡ true) ⊎ (HasTaken (taken_by top superblocks (stored_tenant t tenants)) (slot_block top u) → ⊥)
  fewer u e (inl same) = inr (subst (λ n. HasTaken (taken_by top superblocks (stored_tenant t tenants)) (slot_block top n) → ⊥) (sym same) none_taken)
  fewer u e (inr ne) = inl (held_other u ne ∙ e)

  tenant_kept : IsTenantKept top (set superblocks m (bare_superblock top)) dropped
  tenant_kept = record {
    sizes = record {
      slots = length-set (stored_tenant t tenants).slots slot None ∙ mine.sizes.slots ∙ sym (length-set superblocks m (bare_superblock top));
      free = length-set (stored_tenant t tenants).free top (slice_index (stored_tenant t tenants).free top - 1) ∙ mine.sizes.free;
      taken = mine.sizes.taken;
    };
    within = λ v i at. subst (λ n. i < n) (sym (length-set superblocks m (bare_superblock top))) (within v i at (cases_eq v slot));
    sound = subst (λ (T : Taken). IsSound top (held_by dropped) T) (sym (taken_same top superblocks (stored_tenant t tenants) m slot (bare_superblock top) dropped step))
        (take_back_stays_sound top (held_by (stored_tenant t tenants)) (held_by dropped) (taken_by top superblocks (stored_tenant t tenants)) mine.sound (λ u e. fewer u e (cases_eq u slot)));
    shows = λ v i at. shown v i at (cases_eq v slot);
    free = λ k le. counted k le (cases_eq k top)
        ∙ ap (λ (T : Taken). count_below (λ f. is_free top (held_by dropped) T (block f k)) (length superblocks * 2 ^ top)) (sym (taken_same top superblocks (stored_tenant t tenants) m slot (bare_superblock top) dropped step))
        ∙ ap (λ n. count_below (λ f. is_free top (held_by dropped) (taken_by top (set superblocks m (bare_superblock top)) dropped) (block f k)) (n * 2 ^ top)) (sym (length-set superblocks m (bare_superblock top)));
    taken = λ k le. mine.taken k le ∙ sym (taken_blocks_same top superblocks (stored_tenant t tenants) m slot (bare_superblock top) dropped step k);
  }

  was : (u i : ℕ) → superblock_at dropped u ≡ Some i → (u ≡ slot) ⊎ (u ≡ slot → ⊥) → superblock_at (stored_tenant t tenants) u ≡ Some i
  was u i at (inl e) = absurd (none-some i (sym (ap (superblock_at dropped) e ∙ slot_here) ∙ at))
  was u i at (inr ne) = sym (slot_other u ne) ∙ at

  has : (u i : ℕ) → superblock_at (stored_tenant t tenants) u ≡ Some i → (i ≡ m → ⊥) → (u ≡ slot) ⊎ (u ≡ slot → ⊥) → (w : ℕ) × (superblock_at dropped w ≡ Some i)
  has u i at ne (inl e) = absurd (ne (same_Some i m (sym at ∙ ap (superblock_at (stored_tenant t tenants)) e ∙ here)))
  has u i at ne (inr off) = (u, slot_other u off ∙ at)

  pub drop_change : IsChange top superblocks tenants t m (bare_superblock top) dropped
  drop_change = record {
    listed = listed;
    superblock = m_lt;
    order = refl;
    kept = tenant_kept;
    others = λ v w ne at. ne (kept.apart v w t slot m at here).0;
    own = λ u w i a b. (kept.apart t u t w i (was u i a (cases_eq u slot)) (was w i b (cases_eq w slot))).1;
    had = λ u i at ne. (u, was u i at (cases_eq u slot));
    has = λ u i at ne. has u i at ne (cases_eq u slot);
    left = λ gone. refl;
  }

  pub drop_holding : holding_shown top (set superblocks m (bare_superblock top)) dropped ≡ record (holding_shown top superblocks (stored_tenant t tenants)) { slots = set (stored_tenant t tenants).slots slot None }
  drop_holding = holding_same top superblocks (stored_tenant t tenants) m slot (bare_superblock top) dropped step

  -- the take-back is noted with the word of an empty slot
  pub drop_noted : IsNoted superblocks tenants t m slot (bare_superblock top) dropped 0
  drop_noted = record {
    listed = listed;
    slots = length-set (stored_tenant t tenants).slots slot None;
    free = length-set (stored_tenant t tenants).free top (slice_index (stored_tenant t tenants).free top - 1);
    others = λ v u ne at. ne (kept.apart v u t slot m at here).0;
    same = slot_other;
    apart = λ u ne at. ne (kept.apart t u t slot m (sym (slot_other u ne) ∙ at) here).1;
    here = λ j. ap (is_source (set superblocks m (bare_superblock top)) j) slot_here ∙ sym (ap (λ n. n == 1) (bit_at-zero j));
  }
