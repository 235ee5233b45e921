-- If a slot without a taken frame is added or removed, the taken blocks and all other slots stay the same.
use Rattle.std.proofs.Common.{◌≡◌, ◌⊎◌, inl, inr, refl, sym, ◌∙◌, ap, subst, ℕ, ◌+◌, ◌*◌, ◌/◌, ◌%◌, ◌^◌, ◌<◌, Bool, true, false, Option, Some, None, List, length, get_or, set, map, arith}
use Rattle.std.specs.List.{range_with_len}
use Rattle.std.proofs.lemmas.List.{get_or-set_other}
use Rattle.std.proofs.lemmas.Nat.{div-mul-add}
use Rattle.std.proofs.lemmas.Bool.{cases_eq, both_ways, false_from_ne_true}
use Rattle.model_core.specs.Blocks.{Taken, IsTaken, IsSound}
use Rattle.model_core.specs.Choice.{is_available}
use Rattle.model_core.specs.Numbered.{number_at}
use Rattle.model_core.proofs.BlockHalves.{clear_from}
use Rattle.model_core.proofs.BlockTakenOut.{TakesOut}
use Rattle.model_core.proofs.BlocksByNumber.{number_is, number_first, available_is, available_tells, number_of_frame, same_slot}
use Rattle.model_core.proofs.FreeBlocks.{same_bool}
use Rattle.buddy_core.specs.Content.{Holding, taken_block_count}
use Rattle.buddy_core.specs.Tree.{Shows}
use Rattle.buddy_core.specs.Stored.{StoredSuperblock, StoredTenant, superblock_of, superblock_at, held_by, order_under, taken_by, holding_shown}
use Rattle.buddy_core.specs.Kept.{available_in}
use Rattle.buddy_core.proofs.ContentShown.{bare_of}
use Rattle.buddy_core.proofs.TreeSlots.{shows_same}

-- `more` holds one slot more than `fewer`, slot u, and no frame of slot u is taken
pub record IsOneMore (top : ℕ) (more fewer : ℕ → Bool) (taken : Taken) (u : ℕ) : Type 0 where
  pub on : more u ≡ true
  pub off : fewer u ≡ false
  pub others : (v : ℕ) → (v ≡ u → ⊥) → more v ≡ fewer v
  pub untaken : (x : ℕ) → x / 2 ^ top ≡ u → IsTaken taken x → ⊥

module _ (top : ℕ) (more fewer : ℕ → Bool) (taken : Taken) (u : ℕ) (one : IsOneMore top more fewer taken u) where
  pub available_there : (x : ℕ) → x / 2 ^ top ≡ u → is_available top more taken x ≡ true
  available_there x e = available_is top more taken x (ap more e ∙ one.on) (one.untaken x e)

  pub available_elsewhere : (x : ℕ) → (x / 2 ^ top ≡ u → ⊥) → is_available top fewer taken x ≡ is_available top more taken x
  available_elsewhere x ne = same_bool _ _
      (λ e. let both = available_tells top fewer taken x e in available_is top more taken x (one.others (x / 2 ^ top) ne ∙ both.0) both.1)
      (λ e. let both = available_tells top more taken x e in available_is top fewer taken x (sym (one.others (x / 2 ^ top) ne) ∙ both.0) both.1)

  in_number : (x : ℕ) → number_at top x ≡ number_at top (u * 2 ^ top) → x / 2 ^ top ≡ u
  in_number x e = sym (number_is top x) ∙ e ∙ number_first u top

  pub slot_out : TakesOut (is_available top more taken) (is_available top fewer taken) top (u * 2 ^ top) top top
  slot_out = record {
    order = omega arith;
    open_block = (omega arith, clear_from (is_available top more taken) top (number_at top (u * 2 ^ top)) (λ x e. available_there x (in_number x e)), inl refl);
    inside = λ x e. false_from_ne_true _ (λ on. both_ways (fewer u) one.off (ap fewer (sym (in_number x e)) ∙ (available_tells top fewer taken x on).0));
    outside = λ x ne. available_elsewhere x (λ e. ne (number_is top x ∙ e ∙ sym (number_first u top)));
  }

-- the slots of `tenant` and `tenant'` differ only in slot u, and no other slot of theirs has superblock m
pub record IsSlotStep (top : ℕ) (superblocks : List StoredSuperblock) (tenant : StoredTenant) (m u : ℕ) (s : StoredSuperblock) (tenant' : StoredTenant) : Type 0 where
  pub inside : u < length tenant.slots
  pub size : length tenant'.slots ≡ length tenant.slots
  pub others : (v : ℕ) → (v ≡ u → ⊥) → superblock_at tenant' v ≡ superblock_at tenant v
  pub apart : (v : ℕ) → (v ≡ u → ⊥) → superblock_at tenant v ≡ Some m → ⊥
  -- no taken block begins in the slot, before or after
  pub none_before : (g : ℕ) → g / 2 ^ top ≡ u → taken_by top superblocks tenant g ≡ None
  pub none_after : (g : ℕ) → g / 2 ^ top ≡ u → taken_by top (set superblocks m s) tenant' g ≡ None

module _ (top : ℕ) (superblocks : List StoredSuperblock) (tenant : StoredTenant) (m u : ℕ) (s : StoredSuperblock) (tenant' : StoredTenant) (step : IsSlotStep top superblocks tenant m u s tenant') where
  found : (g : ℕ) → (g / 2 ^ top ≡ u) ⊎ (g / 2 ^ top ≡ u → ⊥) → taken_by top (set superblocks m s) tenant' g ≡ taken_by top superblocks tenant g
  found g (inl e) = step.none_after g e ∙ sym (step.none_before g e)
  found g (inr ne) = ap (λ o. order_under (set superblocks m s) o (g % 2 ^ top)) (step.others (g / 2 ^ top) ne) ∙ go (superblock_at tenant (g / 2 ^ top)) refl
    where
      go : (o : Option ℕ) → superblock_at tenant (g / 2 ^ top) ≡ o → order_under (set superblocks m s) (superblock_at tenant (g / 2 ^ top)) (g % 2 ^ top) ≡ order_under superblocks (superblock_at tenant (g / 2 ^ top)) (g % 2 ^ top)
      go None e = ap (λ o. order_under (set superblocks m s) o (g % 2 ^ top)) e ∙ sym (ap (λ o. order_under superblocks o (g % 2 ^ top)) e)
      go (Some i) e =
          ap (λ o. order_under (set superblocks m s) o (g % 2 ^ top)) e
          ∙ ap (λ (z : StoredSuperblock). get_or z.orders (g % 2 ^ top) None) (get_or-set_other superblocks m i s bare_of (λ same. step.apart (g / 2 ^ top) ne (e ∙ ap Some same)))
          ∙ sym (ap (λ o. order_under superblocks o (g % 2 ^ top)) e)

  -- the tenant's taken blocks stay the same
  pub taken_same : taken_by top (set superblocks m s) tenant' ≡ taken_by top superblocks tenant
  taken_same = λ i g. found g (cases_eq (g / 2 ^ top) u) i

  pub holding_same : holding_shown top (set superblocks m s) tenant' ≡ record (holding_shown top superblocks tenant) { slots = tenant'.slots }
  holding_same =
      ap (λ (taken : Taken). held_from (map taken (range_with_len 0 (length tenant'.slots * 2 ^ top)))) taken_same
      ∙ ap (λ n. held_from (map (taken_by top superblocks tenant) (range_with_len 0 (n * 2 ^ top)))) step.size
    where
      held_from : List (Option ℕ) → Holding
      held_from b = record { slots = tenant'.slots; taken = b }

  pub taken_blocks_same : (k : ℕ) → taken_block_count k (holding_shown top (set superblocks m s) tenant') ≡ taken_block_count k (holding_shown top superblocks tenant)
  taken_blocks_same k = ap (taken_block_count k) holding_same

  -- the words of the superblock in any other slot still show which of its frames are available
  module _ (same_held : (v : ℕ) → (v ≡ u → ⊥) → held_by tenant' v ≡ held_by tenant v) where
    pub shows_other : (v i : ℕ) → (v ≡ u → ⊥) → superblock_at tenant v ≡ Some i → Shows top (available_in top superblocks tenant v) (superblock_of i superblocks).tree.words
        → Shows top (available_in top (set superblocks m s) tenant' v) (superblock_of i (set superblocks m s)).tree.words
    shows_other v i ne at shows =
        subst (λ (T : Taken). Shows top (λ y. is_available top (held_by tenant') T (v * 2 ^ top + y)) (superblock_of i (set superblocks m s)).tree.words) (sym taken_same)
        (subst (λ (z : StoredSuperblock). Shows top (λ y. is_available top (held_by tenant') (taken_by top superblocks tenant) (v * 2 ^ top + y)) z.tree.words)
        (sym (get_or-set_other superblocks m i s bare_of (λ same. step.apart v ne (at ∙ ap Some same))))
        (shows_same _ _ top (superblock_of i superblocks).tree.words shows agree))
      where
        agree : (y : ℕ) → y < 2 ^ top → is_available top (held_by tenant) (taken_by top superblocks tenant) (v * 2 ^ top + y) ≡ is_available top (held_by tenant') (taken_by top superblocks tenant) (v * 2 ^ top + y)
        agree y lt =
            let slot = div-mul-add v (2 ^ top) y lt in
            let held_same = same_held v ne in
            same_bool _ _
            (λ e. let both = available_tells top (held_by tenant) (taken_by top superblocks tenant) (v * 2 ^ top + y) e in
            available_is top (held_by tenant') (taken_by top superblocks tenant) (v * 2 ^ top + y) (ap (held_by tenant') slot ∙ held_same ∙ ap (held_by tenant) (sym slot) ∙ both.0) both.1)
            (λ e. let both = available_tells top (held_by tenant') (taken_by top superblocks tenant) (v * 2 ^ top + y) e in
            available_is top (held_by tenant) (taken_by top superblocks tenant) (v * 2 ^ top + y) (ap (held_by tenant) slot ∙ sym held_same ∙ ap (held_by tenant') (sym slot) ∙ both.0) both.1)

-- if a frame of slot u is taken, the taken block that contains it begins in slot u, and slot u is held
pub begins_in : (top : ℕ) (held : ℕ → Bool) (taken : Taken) → IsSound top held taken → (x u : ℕ) → x / 2 ^ top ≡ u → IsTaken taken x → (g k : ℕ) × (g / 2 ^ top ≡ u) × (taken g ≡ Some k) × (held u ≡ true)
begins_in top held taken sound x u e (g, k, at, has) =
    let placed = sound.placed g k at in
    let slot : g / 2 ^ top ≡ u = same_slot top k g x placed.0.0 (sym (number_of_frame g k x placed.0.1 has)) ∙ e in
    (g, k, slot, at, ap held (sym slot) ∙ placed.1)
