-- After a slot moves to a superblock that was in no slot, all invariants hold. The two superblocks swap their stored states.
use Rattle.std.proofs.Common.{◌≡◌, ◌⊎◌, inl, inr, refl, sym, ◌∙◌, ap, ap₂, subst, ℕ, ◌*◌, ◌^◌, ◌<◌, ◌≤◌, ◌==◌, Bool, Some, List, length, get_or, set, map, length-set}
use Rattle.std.specs.Int.{bit_at}
use Rattle.std.specs.Prelude.{is_some}
use Rattle.std.specs.List.{SwappedAt, range_with_len}
use Rattle.std.proofs.lemmas.List.{get_or-set_same, get_or-set_other}
use Rattle.std.proofs.lemmas.Option.{same_Some}
use Rattle.std.proofs.lemmas.Bool.{cases_eq}
use Rattle.model_core.specs.declared.limits.TheConstants.{WIDE_SUPERBLOCKS, WIDE_TENANTS, WIDE_FRAMES}
use Rattle.model_core.specs.Blocks.{Taken}
use Rattle.buddy_core.specs.Content.{Holding, with_holding, with_slot}
use Rattle.buddy_core.specs.Stored.{StoredSuperblock, StoredTenant, bare_superblock, superblock_of, stored_tenant, superblock_at, held_by, holding_shown, content_shown}
use Rattle.buddy_core.specs.Summary.{is_source, AreExact}
use Rattle.buddy_core.specs.Kept.{IsKept, IsTenantKept}
use Rattle.buddy_core.proofs.ContentShown.{slot_within, StandsAsBefore, taken_as_before, blank_of, bare_of, content_replaced}
use Rattle.buddy_core.proofs.ExactSummaries.{exact_kept, summary_same, source_stays}
use Rattle.buddy_core.proofs.TenantChanged.{tenant_stays, tenant_kept_as_before}

module _ (top : ℕ) (superblocks : List StoredSuperblock) (tenants : List StoredTenant) (kept : IsKept top superblocks tenants) (t : ℕ) (listed : t < length tenants) (slot from m : ℕ)
    (here : superblock_at (stored_tenant t tenants) slot ≡ Some from) (m_lt : m < length superblocks) (unused : (v w : ℕ) → superblock_at (stored_tenant v tenants) w ≡ Some m → ⊥)
    (after : List StoredSuperblock) (swapped : SwappedAt superblocks after from m) where
  size : length after ≡ length superblocks
  size = ap length (swapped.3 bare_of) ∙ length-set (set superblocks from (superblock_of m superblocks)) m (superblock_of from superblocks) ∙ length-set superblocks from (superblock_of m superblocks)

  -- tenant t with superblock m in the slot
  abbrev pub moved : StoredTenant
  moved = record (stored_tenant t tenants) { slots = set (stored_tenant t tenants).slots slot (Some m) }

  mine : IsTenantKept top superblocks (stored_tenant t tenants)
  mine = kept.each t listed

  slot_here : superblock_at moved slot ≡ Some m
  slot_here = get_or-set_same (stored_tenant t tenants).slots slot (Some m) _ (slot_within (stored_tenant t tenants).slots slot from here)

  slot_other : (u : ℕ) → (u ≡ slot → ⊥) → superblock_at moved u ≡ superblock_at (stored_tenant t tenants) u
  slot_other u ne = get_or-set_other (stored_tenant t tenants).slots slot u (Some m) _ ne

  superblock_other : (i : ℕ) → (i ≡ from → ⊥) → (i ≡ m → ⊥) → superblock_of i after ≡ superblock_of i superblocks
  superblock_other i a b = swapped.2 i bare_of a b

  -- what is stored for the superblock in any other slot stays the same
  other_slot : (v u i : ℕ) → ((v ≡ t) × (u ≡ slot) → ⊥) → superblock_at (stored_tenant v tenants) u ≡ Some i → superblock_of i after ≡ superblock_of i superblocks
  other_slot v u i ne at = superblock_other i (λ e. ne (kept.apart v u t slot from (at ∙ ap Some e) here)) (λ e. unused v u (at ∙ ap Some e))

  held : (u : ℕ) → (u ≡ slot) ⊎ (u ≡ slot → ⊥) → held_by moved u ≡ held_by (stored_tenant t tenants) u
  held u (inl e) = ap (held_by moved) e ∙ ap is_some slot_here ∙ sym (ap is_some here) ∙ ap (held_by (stored_tenant t tenants)) (sym e)
  held u (inr ne) = ap is_some (slot_other u ne)

  same : (u i : ℕ) → superblock_at moved u ≡ Some i → (u ≡ slot) ⊎ (u ≡ slot → ⊥) → (j : ℕ) × (superblock_at (stored_tenant t tenants) u ≡ Some j) × (superblock_of i after ≡ superblock_of j superblocks)
  same u i at (inl e) = (from, ap (superblock_at (stored_tenant t tenants)) e ∙ here, ap (λ n. superblock_of n after) (same_Some i m (sym at ∙ ap (superblock_at moved) e ∙ slot_here)) ∙ swapped.1 bare_of)
  same u i at (inr ne) = let was = sym (slot_other u ne) ∙ at in (i, was, other_slot t u i (λ both. ne both.1) was)

  within : (u i : ℕ) → superblock_at moved u ≡ Some i → (u ≡ slot) ⊎ (u ≡ slot → ⊥) → i < length superblocks
  within u i at (inl e) = subst (λ n. n < length superblocks) (same_Some m i (sym (ap (superblock_at moved) e ∙ slot_here) ∙ at)) m_lt
  within u i at (inr ne) = mine.within u i (sym (slot_other u ne) ∙ at)

  stands : StandsAsBefore superblocks after (stored_tenant t tenants) moved
  stands = record { held = λ i u. held u (cases_eq u slot) i; same = λ u i at. same u i at (cases_eq u slot) }

  tenant_same : (v : ℕ) → v ≡ t → stored_tenant v (set tenants t moved) ≡ moved
  tenant_same v e = ap (λ n. stored_tenant n (set tenants t moved)) e ∙ get_or-set_same tenants t moved blank_of listed

  tenant_other : (v : ℕ) → (v ≡ t → ⊥) → stored_tenant v (set tenants t moved) ≡ stored_tenant v tenants
  tenant_other v ne = get_or-set_other tenants t v moved blank_of ne

  each_kept : (v : ℕ) → v < length (set tenants t moved) → (v ≡ t) ⊎ (v ≡ t → ⊥) → IsTenantKept top after (stored_tenant v (set tenants t moved))
  each_kept v lt (inl e) = subst (IsTenantKept top after) (sym (tenant_same v e))
      (tenant_kept_as_before top superblocks after (stored_tenant t tenants) (set (stored_tenant t tenants).slots slot (Some m)) size (length-set (stored_tenant t tenants).slots slot (Some m)) stands (λ u i at. within u i at (cases_eq u slot)) mine)
  each_kept v lt (inr ne) = subst (IsTenantKept top after) (sym (tenant_other v ne))
      (tenant_stays top superblocks after (stored_tenant v tenants) size (λ u i at. other_slot v u i (λ both. ne both.0) at) (kept.each v (subst (λ n. v < n) (length-set tenants t moved) lt)))

  -- afterwards, a held slot is the moved slot and has superblock m, or it has the superblock that it had before
  was : (v u i : ℕ) → superblock_at (stored_tenant v (set tenants t moved)) u ≡ Some i → (v ≡ t) ⊎ (v ≡ t → ⊥) → (u ≡ slot) ⊎ (u ≡ slot → ⊥)
      → ((v ≡ t) × (u ≡ slot) × (i ≡ m)) ⊎ (superblock_at (stored_tenant v tenants) u ≡ Some i)
  was v u i at (inr ne) _ = inr (ap (λ r. superblock_at r u) (sym (tenant_other v ne)) ∙ at)
  was v u i at (inl e) (inl d) = inl (e, d, same_Some i m (sym at ∙ ap (λ r. superblock_at r u) (tenant_same v e) ∙ ap (superblock_at moved) d ∙ slot_here))
  was v u i at (inl e) (inr ne) = inr (ap (λ n. superblock_at (stored_tenant n tenants) u) e ∙ sym (slot_other u ne) ∙ ap (λ r. superblock_at r u) (sym (tenant_same v e)) ∙ at)

  apart : (v u z w i : ℕ) → ((v ≡ t) × (u ≡ slot) × (i ≡ m)) ⊎ (superblock_at (stored_tenant v tenants) u ≡ Some i) → ((z ≡ t) × (w ≡ slot) × (i ≡ m)) ⊎ (superblock_at (stored_tenant z tenants) w ≡ Some i) → (v ≡ z) × (u ≡ w)
  apart v u z w i (inl (a, b, _)) (inl (c, d, _)) = (a ∙ sym c, b ∙ sym d)
  apart v u z w i (inl (_, _, e)) (inr at) = absurd (unused z w (at ∙ ap Some e))
  apart v u z w i (inr at) (inl (_, _, e)) = absurd (unused v u (at ∙ ap Some e))
  apart v u z w i (inr a) (inr b) = kept.apart v u z w i a b

  order_now : (i : ℕ) → i < length superblocks → (i ≡ from) ⊎ (i ≡ from → ⊥) → (i ≡ m) ⊎ (i ≡ m → ⊥) → (superblock_of i after).tree.order ≡ top
  order_now i lt (inl e) _ = ap (λ (z : StoredSuperblock). z.tree.order) (ap (λ n. superblock_of n after) e ∙ swapped.0 bare_of) ∙ kept.order m m_lt
  order_now i lt (inr _) (inl e) = ap (λ (z : StoredSuperblock). z.tree.order) (ap (λ n. superblock_of n after) e ∙ swapped.1 bare_of) ∙ kept.order from (mine.within slot from here)
  order_now i lt (inr a) (inr b) = ap (λ (z : StoredSuperblock). z.tree.order) (superblock_other i a b) ∙ kept.order i lt

  -- Afterwards, every superblock in no slot is blank. The old superblock is blank because it now has the stored state that m had
  -- before.
  bare_now : (i : ℕ) → i < length superblocks → ((v u : ℕ) → superblock_at (stored_tenant v (set tenants t moved)) u ≡ Some i → ⊥) → (i ≡ from) ⊎ (i ≡ from → ⊥) → superblock_of i after ≡ bare_superblock top
  bare_now i lt none (inl e) = ap (λ n. superblock_of n after) e ∙ swapped.0 bare_of ∙ kept.bare m m_lt unused
  bare_now i lt none (inr ne) =
      superblock_other i ne (λ e. none t slot (ap (λ r. superblock_at r slot) (tenant_same t refl) ∙ slot_here ∙ ap Some (sym e)))
      ∙ kept.bare i lt (λ v u at. before v u at (cases_eq v t) (cases_eq u slot))
    where
      before : (v u : ℕ) → superblock_at (stored_tenant v tenants) u ≡ Some i → (v ≡ t) ⊎ (v ≡ t → ⊥) → (u ≡ slot) ⊎ (u ≡ slot → ⊥) → ⊥
      before v u at (inr off) _ = none v u (ap (λ r. superblock_at r u) (tenant_other v off) ∙ at)
      before v u at (inl e) (inl d) = ne (same_Some i from (sym at ∙ ap (λ n. superblock_at (stored_tenant n tenants) u) e ∙ ap (superblock_at (stored_tenant t tenants)) d ∙ here))
      before v u at (inl e) (inr off) = none v u (ap (λ r. superblock_at r u) (tenant_same v e) ∙ slot_other u off ∙ ap (λ n. superblock_at (stored_tenant n tenants) u) (sym e) ∙ at)

  pub move_kept : IsKept top after (set tenants t moved)
  move_kept = record {
    small = kept.small;
    few = subst (λ n. n ≤ WIDE_SUPERBLOCKS) (sym size) kept.few;
    frames = subst (λ n. n * 2 ^ top ≤ WIDE_FRAMES) (sym size) kept.frames;
    few_tenants = subst (λ n. n ≤ WIDE_TENANTS) (sym (length-set tenants t moved)) kept.few_tenants;
    order = λ i lt. order_now i (subst (λ n. i < n) size lt) (cases_eq i from) (cases_eq i m);
    each = λ v lt. each_kept v lt (cases_eq v t);
    apart = λ v u z w i a b. apart v u z w i (was v u i a (cases_eq v t) (cases_eq u slot)) (was z w i b (cases_eq z t) (cases_eq w slot));
    bare = λ i lt none. bare_now i (subst (λ n. i < n) size lt) none (cases_eq i from);
  }

  pub move_shown : content_shown top after (set tenants t moved) ≡ with_holding t (with_slot slot m (holding_shown top superblocks (stored_tenant t tenants))) (content_shown top superblocks tenants)
  move_shown = content_replaced top superblocks tenants t after moved (with_slot slot m (holding_shown top superblocks (stored_tenant t tenants))) size
      (λ v ne lt. taken_as_before top superblocks after (stored_tenant v tenants) (stored_tenant v tenants)
      (record { held = refl; same = λ u i at. (i, at, other_slot v u i (λ both. ne both.0) at) }))
      (ap₂ shows (taken_as_before top superblocks after (stored_tenant t tenants) moved stands) (length-set (stored_tenant t tenants).slots slot (Some m)))
    where
      shows : Taken → ℕ → Holding
      shows taken n = record { slots = set (stored_tenant t tenants).slots slot (Some m); taken = map taken (range_with_len 0 (n * 2 ^ top)) }

  -- the superblock in each slot has the same free blocks as before, so the summaries are still exact
  pub move_exact : (summaries : List (List (List Bool))) → AreExact superblocks tenants summaries → AreExact after (set tenants t moved) summaries
  move_exact summaries exact =
      exact_kept superblocks after tenants summaries exact t moved listed
      (summary_same superblocks after (stored_tenant t tenants) moved (sym (length-set (stored_tenant t tenants).slots slot (Some m))) refl (λ j u. mine_same j u (cases_eq u slot)))
      (λ v ne lt.
      summary_same superblocks after (stored_tenant v tenants) (stored_tenant v tenants) refl refl (λ j u.
      source_stays superblocks after (superblock_at (stored_tenant v tenants) u) j (λ i at. other_slot v u i (λ both. ne both.0) at)))
    where
      mine_same : (j u : ℕ) → (u ≡ slot) ⊎ (u ≡ slot → ⊥) → is_source superblocks j (superblock_at (stored_tenant t tenants) u) ≡ is_source after j (superblock_at moved u)
      mine_same j u (inl e) =
          ap (is_source superblocks j) (ap (superblock_at (stored_tenant t tenants)) e ∙ here)
          ∙ ap (λ (z : StoredSuperblock). bit_at (get_or z.tree.words 0 0) j == 1) (sym (swapped.1 bare_of))
          ∙ ap (is_source after j) (sym (ap (superblock_at moved) e ∙ slot_here))
      mine_same j u (inr ne) =
          source_stays superblocks after (superblock_at (stored_tenant t tenants) u) j (λ i at. other_slot t u i (λ both. ne both.1) at)
          ∙ ap (is_source after j) (sym (slot_other u ne))
