-- If one tenant and one superblock change as `IsChange` says, `IsKept` stays true.
use Rattle.std.proofs.Common.{◌≡◌, ◌⊎◌, inl, inr, refl, sym, ◌∙◌, ap, ap₂, subst, Bool, Option, ℕ, ◌+◌, ◌*◌, ◌^◌, ◌<◌, ◌≤◌, Some, List, length, set, map, length-set}
use Rattle.std.proofs.lemmas.List.{get_or-set_same, get_or-set_other}
use Rattle.std.proofs.lemmas.Bool.{cases_eq}
use Rattle.model_core.specs.Blocks.{Taken, block, IsSound}
use Rattle.std.specs.List.{range_with_len}
use Rattle.model_core.specs.declared.limits.TheConstants.{WIDE_SUPERBLOCKS, WIDE_TENANTS, WIDE_FRAMES}
use Rattle.model_core.specs.Choice.{is_available, is_free, count_below}
use Rattle.buddy_core.specs.Content.{Holding, with_holding, taken_block_count}
use Rattle.buddy_core.specs.Tree.{Shows}
use Rattle.buddy_core.specs.Stored.{StoredSuperblock, StoredTenant, bare_superblock, superblock_of, stored_tenant, superblock_at, held_by, taken_by, holding_shown, content_shown}
use Rattle.buddy_core.specs.Kept.{IsKept, IsTenantKept, available_in}
use Rattle.buddy_core.proofs.ContentShown.{StandsAsBefore, taken_as_before, blank_of, bare_of, taken_stays, content_replaced}

-- `IsTenantKept` stays true of a tenant if each slot has the same stored superblock, perhaps under another number
pub tenant_kept_as_before : (top : ℕ) (superblocks superblocks' : List StoredSuperblock) (tenant : StoredTenant) (slots : List (Option ℕ)) → length superblocks' ≡ length superblocks → length slots ≡ length tenant.slots
    → StandsAsBefore superblocks superblocks' tenant (record tenant { slots = slots }) → ((u m : ℕ) → superblock_at (record tenant { slots = slots }) u ≡ Some m → m < length superblocks)
    → IsTenantKept top superblocks tenant → IsTenantKept top superblocks' (record tenant { slots = slots })
tenant_kept_as_before top superblocks superblocks' tenant slots size count stands within kept = record {
  sizes = record { slots = count ∙ kept.sizes.slots ∙ sym size; free = kept.sizes.free; taken = kept.sizes.taken };
  within = λ u m at. subst (λ n. m < n) (sym size) (within u m at);
  sound = both (λ h T. IsSound top h T) kept.sound;
  shows = λ u m at.
      let was = stands.same u m at in
      subst (λ (x : StoredSuperblock). Shows top (available_in top superblocks' after u) x.tree.words) (sym was.2)
      (both (λ h T. Shows top (λ x. is_available top h T (u * 2 ^ top + x)) (superblock_of was.0 superblocks).tree.words) (kept.shows u was.0 was.1));
  free = λ k le. kept.free k le ∙ ap₂ (λ h T. number h T (length superblocks) k) (sym stands.held) (sym taken) ∙ ap (λ n. number (held_by after) (taken_by top superblocks' after) n k) (sym size);
  taken = λ k le. kept.taken k le ∙ ap₂ (λ T n. taken_block_count k (record { slots = slots; taken = map T (range_with_len 0 (n * 2 ^ top)) })) (sym taken) (sym count);
}
  where
    after : StoredTenant
    after = record tenant { slots = slots }

    taken : taken_by top superblocks' after ≡ taken_by top superblocks tenant
    taken = taken_as_before top superblocks superblocks' tenant after stands

    both : (P : (ℕ → Bool) → Taken → Type 0) → P (held_by tenant) (taken_by top superblocks tenant) → P (held_by after) (taken_by top superblocks' after)
    both P p = subst (λ T. P (held_by after) T) (sym taken) (subst (λ h. P h (taken_by top superblocks tenant)) (sym stands.held) p)

    number : (ℕ → Bool) → Taken → ℕ → ℕ → ℕ
    number h T n k = count_below (λ f. is_free top h T (block f k)) (n * 2 ^ top)

-- `IsTenantKept` stays true of a tenant if none of its superblocks changes
pub tenant_stays : (top : ℕ) (superblocks superblocks' : List StoredSuperblock) (tenant : StoredTenant) → length superblocks' ≡ length superblocks
    → ((u m : ℕ) → superblock_at tenant u ≡ Some m → superblock_of m superblocks' ≡ superblock_of m superblocks) → IsTenantKept top superblocks tenant → IsTenantKept top superblocks' tenant
tenant_stays top superblocks superblocks' tenant size stays kept = tenant_kept_as_before top superblocks superblocks' tenant tenant.slots size refl (record { held = refl; same = λ u m at. (m, at, stays u m at) }) kept.within kept

-- the entry of tenant t becomes `tenant`, and superblock m, which no other tenant has, becomes s
pub record IsChange (top : ℕ) (superblocks : List StoredSuperblock) (tenants : List StoredTenant) (t m : ℕ) (s : StoredSuperblock) (tenant : StoredTenant) : Type 0 where
  pub listed : t < length tenants
  pub superblock : m < length superblocks
  pub order : s.tree.order ≡ top
  pub kept : IsTenantKept top (set superblocks m s) tenant
  pub others : (v w : ℕ) → (v ≡ t → ⊥) → superblock_at (stored_tenant v tenants) w ≡ Some m → ⊥
  pub own : (u w i : ℕ) → superblock_at tenant u ≡ Some i → superblock_at tenant w ≡ Some i → u ≡ w
  pub had : (u i : ℕ) → superblock_at tenant u ≡ Some i → (i ≡ m → ⊥) → (w : ℕ) × (superblock_at (stored_tenant t tenants) w ≡ Some i)
  pub has : (u i : ℕ) → superblock_at (stored_tenant t tenants) u ≡ Some i → (i ≡ m → ⊥) → (w : ℕ) × (superblock_at tenant w ≡ Some i)
  pub left : ((u : ℕ) → superblock_at tenant u ≡ Some m → ⊥) → s ≡ bare_superblock top

module _ (top : ℕ) (superblocks : List StoredSuperblock) (tenants : List StoredTenant) (t m : ℕ) (s : StoredSuperblock) (tenant : StoredTenant) (old : IsKept top superblocks tenants) (change : IsChange top superblocks tenants t m s tenant) where
  tenant_same : (v : ℕ) → v ≡ t → stored_tenant v (set tenants t tenant) ≡ tenant
  tenant_same v e = ap (λ n. stored_tenant n (set tenants t tenant)) e ∙ get_or-set_same tenants t tenant blank_of change.listed

  tenant_other : (v : ℕ) → (v ≡ t → ⊥) → stored_tenant v (set tenants t tenant) ≡ stored_tenant v tenants
  tenant_other v ne = get_or-set_other tenants t v tenant blank_of ne

  superblock_same : (i : ℕ) → i ≡ m → superblock_of i (set superblocks m s) ≡ s
  superblock_same i e = ap (λ n. superblock_of n (set superblocks m s)) e ∙ get_or-set_same superblocks m s bare_of change.superblock

  superblock_other : (i : ℕ) → (i ≡ m → ⊥) → superblock_of i (set superblocks m s) ≡ superblock_of i superblocks
  superblock_other i ne = get_or-set_other superblocks m i s bare_of ne

  -- the taken blocks of all other tenants stay the same
  pub others_stay : (v : ℕ) → (v ≡ t → ⊥) → v < length tenants → taken_by top (set superblocks m s) (stored_tenant v tenants) ≡ taken_by top superblocks (stored_tenant v tenants)
  others_stay v ne lt = taken_stays top superblocks m s (stored_tenant v tenants) (λ w at. change.others v w ne at)

  each_kept : (v : ℕ) → v < length (set tenants t tenant) → (v ≡ t) ⊎ (v ≡ t → ⊥) → IsTenantKept top (set superblocks m s) (stored_tenant v (set tenants t tenant))
  each_kept v lt (inl e) = subst (IsTenantKept top (set superblocks m s)) (sym (tenant_same v e)) change.kept
  each_kept v lt (inr ne) =
      let within : v < length tenants = subst (λ n. v < n) (length-set tenants t tenant) lt in
      subst (IsTenantKept top (set superblocks m s)) (sym (tenant_other v ne))
      (tenant_stays top superblocks (set superblocks m s) (stored_tenant v tenants) (length-set superblocks m s)
      (λ u i at. superblock_other i (λ e. change.others v u ne (at ∙ ap Some e))) (old.each v within))

  -- no superblock of the changed tenant is in a slot of another tenant
  crossing : (v u w i : ℕ) → (v ≡ t → ⊥) → superblock_at tenant u ≡ Some i → superblock_at (stored_tenant v tenants) w ≡ Some i → (i ≡ m) ⊎ (i ≡ m → ⊥) → ⊥
  crossing v u w i ne at other (inl e) = change.others v w ne (other ∙ ap Some e)
  crossing v u w i ne at other (inr off) = let before = change.had u i at off in ne (sym (old.apart t before.0 v w i before.1 other).0)

  apart_kept : (v u z w i : ℕ) → superblock_at (stored_tenant v (set tenants t tenant)) u ≡ Some i → superblock_at (stored_tenant z (set tenants t tenant)) w ≡ Some i
      → (v ≡ t) ⊎ (v ≡ t → ⊥) → (z ≡ t) ⊎ (z ≡ t → ⊥) → (v ≡ z) × (u ≡ w)
  apart_kept v u z w i a b (inl e) (inl d) =
      (e ∙ sym d, change.own u w i (ap (λ r. superblock_at r u) (sym (tenant_same v e)) ∙ a) (ap (λ r. superblock_at r w) (sym (tenant_same z d)) ∙ b))
  apart_kept v u z w i a b (inl e) (inr d) =
      absurd (crossing z u w i d (ap (λ r. superblock_at r u) (sym (tenant_same v e)) ∙ a) (ap (λ r. superblock_at r w) (sym (tenant_other z d)) ∙ b) (cases_eq i m))
  apart_kept v u z w i a b (inr e) (inl d) =
      absurd (crossing v w u i e (ap (λ r. superblock_at r w) (sym (tenant_same z d)) ∙ b) (ap (λ r. superblock_at r u) (sym (tenant_other v e)) ∙ a) (cases_eq i m))
  apart_kept v u z w i a b (inr e) (inr d) =
      old.apart v u z w i (ap (λ r. superblock_at r u) (sym (tenant_other v e)) ∙ a) (ap (λ r. superblock_at r w) (sym (tenant_other z d)) ∙ b)

  bare_kept : (i : ℕ) → i < length superblocks → ((v u : ℕ) → superblock_at (stored_tenant v (set tenants t tenant)) u ≡ Some i → ⊥) → (i ≡ m) ⊎ (i ≡ m → ⊥) → superblock_of i (set superblocks m s) ≡ bare_superblock top
  bare_kept i lt unused (inl e) = superblock_same i e ∙ change.left (λ u at. unused t u (ap (λ r. superblock_at r u) (tenant_same t refl) ∙ at ∙ ap Some (sym e)))
  bare_kept i lt unused (inr ne) = superblock_other i ne ∙ old.bare i lt (λ v u at. before v u at (cases_eq v t))
    where
      before : (v u : ℕ) → superblock_at (stored_tenant v tenants) u ≡ Some i → (v ≡ t) ⊎ (v ≡ t → ⊥) → ⊥
      before v u at (inl e) = let now = change.has u i (ap (λ n. superblock_at (stored_tenant n tenants) u) (sym e) ∙ at) ne in unused t now.0 (ap (λ r. superblock_at r now.0) (tenant_same t refl) ∙ now.1)
      before v u at (inr off) = unused v u (ap (λ r. superblock_at r u) (tenant_other v off) ∙ at)

  order_kept : (i : ℕ) → i < length superblocks → (i ≡ m) ⊎ (i ≡ m → ⊥) → (superblock_of i (set superblocks m s)).tree.order ≡ top
  order_kept i lt (inl e) = ap (λ (z : StoredSuperblock). z.tree.order) (superblock_same i e) ∙ change.order
  order_kept i lt (inr ne) = ap (λ (z : StoredSuperblock). z.tree.order) (superblock_other i ne) ∙ old.order i lt

  pub kept_changed : IsKept top (set superblocks m s) (set tenants t tenant)
  kept_changed = record {
    small = old.small;
    few = subst (λ n. n ≤ WIDE_SUPERBLOCKS) (sym (length-set superblocks m s)) old.few;
    frames = subst (λ n. n * 2 ^ top ≤ WIDE_FRAMES) (sym (length-set superblocks m s)) old.frames;
    few_tenants = subst (λ n. n ≤ WIDE_TENANTS) (sym (length-set tenants t tenant)) old.few_tenants;
    order = λ i lt. order_kept i (subst (λ n. i < n) (length-set superblocks m s) lt) (cases_eq i m);
    each = λ v lt. each_kept v lt (cases_eq v t);
    apart = λ v u z w i a b. apart_kept v u z w i a b (cases_eq v t) (cases_eq z t);
    bare = λ i lt unused. bare_kept i (subst (λ n. i < n) (length-set superblocks m s) lt) unused (cases_eq i m);
  }

  pub shown_changed : (h : Holding) → holding_shown top (set superblocks m s) tenant ≡ h → content_shown top (set superblocks m s) (set tenants t tenant) ≡ with_holding t h (content_shown top superblocks tenants)
  shown_changed h e = content_replaced top superblocks tenants t (set superblocks m s) tenant h (length-set superblocks m s) others_stay e
