-- The invariants hold for superblocks in no slot and for tenants that hold nothing.
use Rattle.std.proofs.Common.{◌≡◌, ◌⊎◌, inl, inr, refl, sym, ◌∙◌, ap, ap₂, subst, ℕ, ◌+◌, ◌*◌, ◌/◌, ◌%◌, ◌^◌, ◌<◌, ◌≤◌, false, Option, None, List, length, map, replicate, cond, zero, suc, ◌∷◌, arith}
use Rattle.std.specs.Prelude.{is_some, count_by}
use Rattle.std.specs.List.{range_with_len}
use Rattle.std.proofs.lemmas.List.{get_or-replicate, get_or_past, length-replicate, same_lists}
use Rattle.std.proofs.lemmas.List.Folds.{sum_by-replicate}
use Rattle.std.proofs.lemmas.List.FromFn.{length-map-range_with_len, get_or-map-range_with_len}
use Rattle.std.proofs.lemmas.Option.{none-some}
use Rattle.std.proofs.lemmas.Bool.{cases_lt, false≢true, false_from_ne_true}
use Rattle.model_core.specs.Blocks.{block}
use Rattle.model_core.specs.declared.limits.TheConstants.{WIDE_ORDER, WIDE_SUPERBLOCKS, WIDE_TENANTS, WIDE_FRAMES}
use Rattle.model_core.specs.Choice.{is_free}
use Rattle.model_core.proofs.BlockChoice.{free_is_tested}
use Rattle.model_core.proofs.CountBelow.{count_none}
use Rattle.model_core.proofs.Lists.{everywhere}
use Rattle.buddy_core.specs.Content.{Holding, Content, nothing_held, empty_buddy, has_order, taken_block_count}
use Rattle.buddy_core.specs.Stored.{StoredSuperblock, StoredTenant, bare_superblock, bare_tenant, superblock_of, stored_tenant, superblock_at, held_by, order_under, taken_by, holding_shown, content_shown}
use Rattle.buddy_core.specs.Kept.{IsKept, IsTenantKept, HasTenantSizes}
use Rattle.buddy_core.proofs.ContentShown.{blank_of, bare_of}

module _ (top : ℕ) (superblocks : List StoredSuperblock) where
  pub no_slot : (n v : ℕ) → superblock_at (bare_tenant top n) v ≡ None
  no_slot n v = everywhere None n v

  begins_none : (n f : ℕ) → taken_by top superblocks (bare_tenant top n) f ≡ None
  begins_none n f = ap (λ o. order_under superblocks o (f % 2 ^ top)) (no_slot n (f / 2 ^ top))

  -- the table of the taken blocks of a tenant that holds nothing has only None
  table_blank : (n size : ℕ) → map (taken_by top superblocks (bare_tenant top n)) (range_with_len 0 size) ≡ replicate {A = Option ℕ} size None
  table_blank n size = same_lists _ _
      (length-map-range_with_len (taken_by top superblocks (bare_tenant top n)) 0 size ∙ sym (length-replicate {A = Option ℕ} size None))
      (λ f d lt.
      let within : f < size = subst (λ l. f < l) (length-map-range_with_len (taken_by top superblocks (bare_tenant top n)) 0 size) lt in
      get_or-map-range_with_len (taken_by top superblocks (bare_tenant top n)) 0 size f f d within (omega arith) ∙ begins_none n f ∙ sym (get_or-replicate size f None d within))

  pub blank_holding : (n : ℕ) → holding_shown top superblocks (bare_tenant top n) ≡ nothing_held top n
  blank_holding n =
      ap held_from (table_blank n (length (bare_tenant top n).slots * 2 ^ top))
      ∙ ap (λ l. held_from (replicate (l * 2 ^ top) None)) (length-replicate {A = Option ℕ} n None)
    where
      held_from : List (Option ℕ) → Holding
      held_from b = record { slots = replicate n None; taken = b }

  not_free : (n k f : ℕ) → is_free top (held_by (bare_tenant top n)) (taken_by top superblocks (bare_tenant top n)) (block f k) ≡ false
  not_free n k f = false_from_ne_true _ (λ e.
      let free = (free_is_tested top (held_by (bare_tenant top n)) (taken_by top superblocks (bare_tenant top n)) (block f k)).0 e in
      false≢true (sym (ap is_some (no_slot n (f / 2 ^ top))) ∙ free.1))

  pub blank_kept : IsTenantKept top superblocks (bare_tenant top (length superblocks))
  blank_kept = record {
    sizes = record { slots = length-replicate {A = Option ℕ} (length superblocks) None; free = length-replicate {A = ℕ} (top + 1) 0; taken = length-replicate {A = ℕ} (top + 1) 0 };
    within = λ u m at. absurd (none-some m (sym (no_slot (length superblocks) u) ∙ at));
    sound = record {
      placed = λ f k e. absurd (none-some k (sym (begins_none (length superblocks) f) ∙ e));
      apart = λ f k g j x e d a b. absurd (none-some k (sym (begins_none (length superblocks) f) ∙ e));
    };
    shows = λ u m at. absurd (none-some m (sym (no_slot (length superblocks) u) ∙ at));
    free = λ k le. get_or-replicate (top + 1) k 0 0 (omega arith) ∙ sym (count_none _ (length superblocks * 2 ^ top) (λ f lt. not_free (length superblocks) k f));
    taken = λ k le. get_or-replicate (top + 1) k 0 0 (omega arith)
        ∙ sym (ap (taken_block_count k) (blank_holding (length superblocks)) ∙ none_counted k (length superblocks * 2 ^ top));
  }
    where
      none_counted : (k n : ℕ) → count_by (has_order k) (replicate n None) ≡ 0
      none_counted k n = sum_by-replicate (λ x. cond (has_order k x) 1 0) n None ∙ (let e : n * 0 ≡ 0 = omega arith in e)

-- a buddy system in which no tenant holds anything has the invariants, and contracts see it as `empty_buddy`
module _ (top superblocks tenants : ℕ) where
  size : length (replicate superblocks (bare_superblock top)) ≡ superblocks
  size = length-replicate superblocks (bare_superblock top)

  pub any_slot : (t u : ℕ) → superblock_at (stored_tenant t (replicate tenants (bare_tenant top superblocks))) u ≡ None
  any_slot t u = go (cases_lt t tenants)
    where
      go : (t < tenants) ⊎ (tenants ≤ t) → superblock_at (stored_tenant t (replicate tenants (bare_tenant top superblocks))) u ≡ None
      go (inl lt) = ap (λ r. superblock_at r u) (get_or-replicate tenants t (bare_tenant top superblocks) blank_of lt) ∙ everywhere None superblocks u
      go (inr past) = ap (λ r. superblock_at r u) (get_or_past (replicate tenants (bare_tenant top superblocks)) t blank_of (subst (λ n. n ≤ t) (sym (length-replicate tenants (bare_tenant top superblocks))) past))

  superblock_is : (m : ℕ) → m < length (replicate superblocks (bare_superblock top)) → superblock_of m (replicate superblocks (bare_superblock top)) ≡ bare_superblock top
  superblock_is m lt = get_or-replicate superblocks m (bare_superblock top) bare_of (subst (λ n. m < n) size lt)

  pub opening_kept : top ≤ WIDE_ORDER → superblocks ≤ WIDE_SUPERBLOCKS → tenants ≤ WIDE_TENANTS → superblocks * 2 ^ top ≤ WIDE_FRAMES → IsKept top (replicate superblocks (bare_superblock top)) (replicate tenants (bare_tenant top superblocks))
  opening_kept small few shared frames = record {
    small = small;
    few = subst (λ n. n ≤ WIDE_SUPERBLOCKS) (sym size) few;
    frames = subst (λ n. n * 2 ^ top ≤ WIDE_FRAMES) (sym size) frames;
    few_tenants = subst (λ n. n ≤ WIDE_TENANTS) (sym (length-replicate tenants (bare_tenant top superblocks))) shared;
    order = λ m lt. ap (λ (z : StoredSuperblock). z.tree.order) (superblock_is m lt);
    each = λ t lt. subst (IsTenantKept top (replicate superblocks (bare_superblock top)))
        (ap (bare_tenant top) size ∙ sym (get_or-replicate tenants t (bare_tenant top superblocks) blank_of (subst (λ n. t < n) (length-replicate tenants (bare_tenant top superblocks)) lt)))
        (blank_kept top (replicate superblocks (bare_superblock top)));
    apart = λ t u v w m a b. absurd (none-some m (sym (any_slot t u) ∙ a));
    bare = λ m lt unused. superblock_is m lt;
  }

  pub opening_shown : content_shown top (replicate superblocks (bare_superblock top)) (replicate tenants (bare_tenant top superblocks)) ≡ empty_buddy top superblocks tenants
  opening_shown = ap₂ content_of size (mapped tenants)
    where
      content_of : ℕ → List Holding → Content
      content_of n ts = record { top = top; superblocks = n; tenants = ts }

      mapped : (n : ℕ) → map (holding_shown top (replicate superblocks (bare_superblock top))) (replicate n (bare_tenant top superblocks)) ≡ replicate n (nothing_held top superblocks)
      mapped zero = refl
      mapped (suc n) = ap₂ ◌∷◌ (blank_holding top (replicate superblocks (bare_superblock top)) superblocks) (mapped n)

-- a tenant whose slots and counts are all cleared is a tenant that holds nothing
pub cleared_tenant : (top n : ℕ) (old new : StoredTenant) → HasTenantSizes top n old → new.slots ≡ replicate (length old.slots) None → new.free ≡ replicate (length old.free) 0 → new.taken ≡ replicate (length old.taken) 0 → new ≡ bare_tenant top n
cleared_tenant top n old new sizes slots free taken =
    ap (λ a. tenant_from a new.free new.taken) (slots ∙ ap (λ l. replicate {A = Option ℕ} l None) sizes.slots)
    ∙ ap₂ (tenant_from (replicate n None)) (free ∙ ap (λ l. replicate {A = ℕ} l 0) sizes.free) (taken ∙ ap (λ l. replicate {A = ℕ} l 0) sizes.taken)
  where
    tenant_from : List (Option ℕ) → List ℕ → List ℕ → StoredTenant
    tenant_from a b c = record { slots = a; free = b; taken = c }
