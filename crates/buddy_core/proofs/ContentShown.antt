-- What contracts see of the stored superblocks and tenants, frame by frame and slot by slot.
use Rattle.std.proofs.Common.{◌≡◌, ◌⊎◌, inl, inr, refl, sym, ◌∙◌, ap, ap₂, subst, ℕ, ◌*◌, ◌/◌, ◌%◌, ◌^◌, ◌<◌, ◌≤◌, Bool, Option, Some, None, List, [], length, get_or, set, map, arith, length-set}
use Rattle.std.specs.Prelude.{is_some}
use Rattle.std.proofs.lemmas.List.{get_or-set_same, get_or-set_other, get_or-map, get_or_past, same_lists, length-map, get_or_read}
use Rattle.std.proofs.lemmas.List.FromFn.{length-map-range_with_len, get_or-map-range_with_len}
use Rattle.std.proofs.lemmas.Nat.{pow_pos, le-div, one_shl}
use Rattle.std.proofs.lemmas.Bool.{cases_lt, cases_eq, false≢true}
use Rattle.std.proofs.lemmas.Option.{none-some}
use Rattle.std.specs.List.{range_with_len}
use Rattle.model_core.specs.declared.limits.TheConstants.{WIDE_ORDER}
use Rattle.model_core.specs.Blocks.{Taken}
use Rattle.buddy_core.specs.Content.{Holding, Content, holding_of, with_holding, superblock_at as held_at, is_held, taken_of, no_tenant}
use Rattle.buddy_core.specs.Stored.{StoredSuperblock, StoredTenant, superblock_of, stored_tenant, superblock_at, held_by, order_under, taken_by, holding_shown, content_shown}

abbrev pub blank_of : StoredTenant
blank_of = record { slots = []; free = []; taken = [] }

abbrev pub bare_of : StoredSuperblock
bare_of = record { tree = record { order = 0; words = [] }; orders = [] }

-- `tenant'` holds the same slots as `tenant`. What is stored for the superblock in each slot is the same, but the number of the
-- superblock may differ.
pub record StandsAsBefore (superblocks superblocks' : List StoredSuperblock) (tenant tenant' : StoredTenant) : Type 0 where
  pub held : held_by tenant' ≡ held_by tenant
  pub same : (u m : ℕ) → superblock_at tenant' u ≡ Some m → (i : ℕ) × (superblock_at tenant u ≡ Some i) × (superblock_of m superblocks' ≡ superblock_of i superblocks)

-- if `StandsAsBefore` is true, `tenant'` has the same taken blocks as `tenant`
pub taken_as_before : (top : ℕ) (superblocks superblocks' : List StoredSuperblock) (tenant tenant' : StoredTenant) → StandsAsBefore superblocks superblocks' tenant tenant' → taken_by top superblocks' tenant' ≡ taken_by top superblocks tenant
taken_as_before top superblocks superblocks' tenant tenant' stands = λ i f. go (f / 2 ^ top) (f % 2 ^ top) (superblock_at tenant' (f / 2 ^ top)) (superblock_at tenant (f / 2 ^ top)) refl refl i
  where
    go : (u x : ℕ) (o p : Option ℕ) → superblock_at tenant' u ≡ o → superblock_at tenant u ≡ p → order_under superblocks' (superblock_at tenant' u) x ≡ order_under superblocks (superblock_at tenant u) x
    go u x None None a b = ap (λ o. order_under superblocks' o x) a ∙ sym (ap (λ o. order_under superblocks o x) b)
    go u x None (Some i) a b = absurd (false≢true (sym (ap is_some a) ∙ ap (λ h. h u) stands.held ∙ ap is_some b))
    go u x (Some m) _ a b =
        let s = stands.same u m a in
        ap (λ o. order_under superblocks' o x) a ∙ ap (λ (z : StoredSuperblock). get_or z.orders x None) s.2 ∙ sym (ap (λ o. order_under superblocks o x) s.1)

module _ (top : ℕ) (superblocks : List StoredSuperblock) where
  pub taken_shown : (tenant : StoredTenant) (f : ℕ) → taken_of (holding_shown top superblocks tenant) f ≡ taken_by top superblocks tenant f
  taken_shown tenant f = go (cases_lt f (length tenant.slots * 2 ^ top))
    where
      size : ℕ
      size = length tenant.slots * 2 ^ top

      go : (f < size) ⊎ (size ≤ f) → taken_of (holding_shown top superblocks tenant) f ≡ taken_by top superblocks tenant f
      go (inl lt) = get_or-map-range_with_len (taken_by top superblocks tenant) 0 (length tenant.slots * 2 ^ top) f f None lt (omega arith)
      go (inr ge) =
          get_or_past (holding_shown top superblocks tenant).taken f None (subst (λ n. n ≤ f) (sym (length-map-range_with_len (taken_by top superblocks tenant) 0 (length tenant.slots * 2 ^ top))) ge)
          ∙ sym (ap (λ o. order_under superblocks o (f % 2 ^ top)) (get_or_past tenant.slots (f / 2 ^ top) None (le-div (length tenant.slots) f (2 ^ top) (pow_pos top) ge)))

  -- if a superblock that is in no slot of a tenant changes, the tenant's taken blocks stay the same
  pub taken_stays : (m : ℕ) (s : StoredSuperblock) (tenant : StoredTenant) → ((w : ℕ) → superblock_at tenant w ≡ Some m → ⊥) → taken_by top (set superblocks m s) tenant ≡ taken_by top superblocks tenant
  taken_stays m s tenant other = taken_as_before top superblocks (set superblocks m s) tenant tenant
      (record { held = refl; same = λ u i at. (i, at, get_or-set_other superblocks m i s _ (λ e. other u (at ∙ ap Some e))) })

module _ (top : ℕ) (superblocks : List StoredSuperblock) (tenants : List StoredTenant) where
  pub holding_at : (t : ℕ) → t < length tenants → holding_of t (content_shown top superblocks tenants) ≡ holding_shown top superblocks (stored_tenant t tenants)
  holding_at t lt = get_or-map (holding_shown top superblocks) tenants t _ no_tenant lt

  pub slot_shown : (t u : ℕ) → held_at (holding_of t (content_shown top superblocks tenants)) u ≡ superblock_at (stored_tenant t tenants) u
  slot_shown t u = go (cases_lt t (length tenants))
    where
      go : (t < length tenants) ⊎ (length tenants ≤ t) → held_at (holding_of t (content_shown top superblocks tenants)) u ≡ superblock_at (stored_tenant t tenants) u
      go (inl lt) = ap (λ h. held_at h u) (holding_at t lt)
      go (inr ge) =
          ap (λ h. held_at h u) (get_or_past (map (holding_shown top superblocks) tenants) t no_tenant (subst (λ n. n ≤ t) (sym (length-map tenants (holding_shown top superblocks))) ge))
          ∙ sym (ap (λ r. superblock_at r u) (get_or_past tenants t _ ge))

  pub held_shown : (t : ℕ) → is_held (holding_of t (content_shown top superblocks tenants)) ≡ held_by (stored_tenant t tenants)
  held_shown t = λ i u. ap is_some (slot_shown t u) i

  pub taken_at : (t : ℕ) → t < length tenants → taken_of (holding_of t (content_shown top superblocks tenants)) ≡ taken_by top superblocks (stored_tenant t tenants)
  taken_at t lt = λ i f. same f i
    where
      same : (f : ℕ) → taken_of (holding_of t (content_shown top superblocks tenants)) f ≡ taken_by top superblocks (stored_tenant t tenants) f
      same f = ap (λ h. taken_of h f) (holding_at t lt) ∙ taken_shown top superblocks (stored_tenant t tenants) f

  -- If the entry of tenant t is replaced by an entry that shows h, and the taken blocks of all other tenants stay the same,
  -- contracts see that t holds h and that nothing else changed.
  pub content_replaced : (t : ℕ) (superblocks' : List StoredSuperblock) (tenant' : StoredTenant) (h : Holding) → length superblocks' ≡ length superblocks
      → ((v : ℕ) → (v ≡ t → ⊥) → v < length tenants → taken_by top superblocks' (stored_tenant v tenants) ≡ taken_by top superblocks (stored_tenant v tenants))
      → holding_shown top superblocks' tenant' ≡ h → content_shown top superblocks' (set tenants t tenant') ≡ with_holding t h (content_shown top superblocks tenants)
  content_replaced t superblocks' tenant' h size others shown = ap₂ content_of size tenants_are
    where
      content_of : ℕ → List Holding → Content
      content_of n ts = record { top = top; superblocks = n; tenants = ts }

      holding_from : StoredTenant → Taken → Holding
      holding_from tenant taken = record { slots = tenant.slots; taken = map taken (range_with_len 0 (length tenant.slots * 2 ^ top)) }

      -- entry v of the list of holdings is what is shown of tenant v
      here : (v : ℕ) (d : Holding) → v < length tenants → get_or (map (holding_shown top superblocks') (set tenants t tenant')) v d ≡ holding_shown top superblocks' (stored_tenant v (set tenants t tenant'))
      here v d lt = get_or-map (holding_shown top superblocks') (set tenants t tenant') v blank_of d (subst (λ n. v < n) (sym (length-set tenants t tenant')) lt)

      each : (v : ℕ) (d : Holding) → v < length tenants → get_or (map (holding_shown top superblocks') (set tenants t tenant')) v d ≡ get_or (set (map (holding_shown top superblocks) tenants) t h) v d
      each v d lt = here v d lt ∙ go (cases_eq v t)
        where
          go : (v ≡ t) ⊎ (v ≡ t → ⊥) → holding_shown top superblocks' (stored_tenant v (set tenants t tenant')) ≡ get_or (set (map (holding_shown top superblocks) tenants) t h) v d
          go (inl e) =
              ap (λ n. holding_shown top superblocks' (stored_tenant n (set tenants t tenant'))) e
              ∙ ap (holding_shown top superblocks') (get_or-set_same tenants t tenant' blank_of (subst (λ n. n < length tenants) e lt))
              ∙ shown
              ∙ sym (get_or-set_same (map (holding_shown top superblocks) tenants) t h d (subst (λ n. t < n) (sym (length-map tenants (holding_shown top superblocks))) (subst (λ n. n < length tenants) e lt)))
              ∙ ap (λ n. get_or (set (map (holding_shown top superblocks) tenants) t h) n d) (sym e)
          go (inr ne) =
              ap (holding_shown top superblocks') (get_or-set_other tenants t v tenant' blank_of ne)
              ∙ ap (λ T. holding_from (stored_tenant v tenants) T) (others v ne lt)
              ∙ sym (get_or-map (holding_shown top superblocks) tenants v blank_of d lt)
              ∙ sym (get_or-set_other (map (holding_shown top superblocks) tenants) t v h d ne)

      tenants_are : map (holding_shown top superblocks') (set tenants t tenant') ≡ set (map (holding_shown top superblocks) tenants) t h
      tenants_are = same_lists _ _
          (length-map (set tenants t tenant') (holding_shown top superblocks') ∙ length-set tenants t tenant' ∙ sym (length-map tenants (holding_shown top superblocks)) ∙ sym (length-set (map (holding_shown top superblocks) tenants) t h))
          (λ v d lt. each v d (subst (λ n. v < n) (length-map (set tenants t tenant') (holding_shown top superblocks') ∙ length-set tenants t tenant') lt))

-- c is what contracts see, and tenant t holds in c what is stored for the tenant
pub record IsShown (top : ℕ) (superblocks : List StoredSuperblock) (tenants : List StoredTenant) (t : ℕ) (c : Content) : Type 0 where
  pub order : c.top ≡ top
  pub count : c.superblocks ≡ length superblocks
  pub listed : t < length tenants
  pub holding : holding_of t c ≡ holding_shown top superblocks (stored_tenant t tenants)
  pub held : is_held (holding_of t c) ≡ held_by (stored_tenant t tenants)
  pub taken : taken_of (holding_of t c) ≡ taken_by top superblocks (stored_tenant t tenants)

pub shown_within : (top : ℕ) (superblocks : List StoredSuperblock) (tenants : List StoredTenant) (t : ℕ) (c : Content) → content_shown top superblocks tenants ≡ c → t < length tenants → IsShown top superblocks tenants t c
shown_within top superblocks tenants t c e within = subst (IsShown top superblocks tenants t) e (record {
  order = refl;
  count = refl;
  listed = within;
  holding = holding_at top superblocks tenants t within;
  held = held_shown top superblocks tenants t;
  taken = taken_at top superblocks tenants t within;
})

pub shown_is : (top : ℕ) (superblocks : List StoredSuperblock) (tenants : List StoredTenant) (t : ℕ) (c : Content) → content_shown top superblocks tenants ≡ c → t < length c.tenants → IsShown top superblocks tenants t c
shown_is top superblocks tenants t c e lt = shown_within top superblocks tenants t c e
    (subst (λ n. t < n) (length-map tenants (holding_shown top superblocks)) (subst (λ (x : Content). t < length x.tenants) (sym e) lt))

-- if slot u of tenant t has a superblock, t is below the number of tenants
pub tenant_within : (tenants : List StoredTenant) (t u m : ℕ) → superblock_at (stored_tenant t tenants) u ≡ Some m → t < length tenants
tenant_within tenants t u m at = go (cases_lt t (length tenants))
  where
    go : (t < length tenants) ⊎ (length tenants ≤ t) → t < length tenants
    go (inl lt) = lt
    go (inr past) = absurd (none-some m (sym (ap (λ r. superblock_at r u) (get_or_past tenants t blank_of past)) ∙ at))

-- if P is true of a tenant's stored slots and taken blocks, it is true of the slots and taken blocks that contracts see
pub by_shown : (P : ℕ → (ℕ → Bool) → Taken → Type 0) (top : ℕ) (superblocks : List StoredSuperblock) (tenants : List StoredTenant) (t : ℕ) (c : Content) → IsShown top superblocks tenants t c
    → P top (held_by (stored_tenant t tenants)) (taken_by top superblocks (stored_tenant t tenants)) → P c.top (is_held (holding_of t c)) (taken_of (holding_of t c))
by_shown P top superblocks tenants t c s p =
    subst (λ n. P n (is_held (holding_of t c)) (taken_of (holding_of t c))) (sym s.order)
    (subst (λ h. P top h (taken_of (holding_of t c))) (sym s.held)
    (subst (λ (T : Taken). P top (held_by (stored_tenant t tenants)) T) (sym s.taken) p))

pub slot_at : (top : ℕ) (superblocks : List StoredSuperblock) (tenants : List StoredTenant) (c : Content) → content_shown top superblocks tenants ≡ c → (t u : ℕ) → held_at (holding_of t c) u ≡ superblock_at (stored_tenant t tenants) u
slot_at top superblocks tenants c e t u = ap (λ x. held_at (holding_of t x) u) (sym e) ∙ slot_shown top superblocks tenants t u

-- if `tenant` is the stored entry of tenant t, the superblock that is read from slot u of `tenant` is in slot u of t
pub slot_read : (tenants : List StoredTenant) (t : ℕ) (tenant : StoredTenant) → t < length tenants → tenant ≡ get_or tenants t tenant → (u : ℕ) (o : Option ℕ) → o ≡ superblock_at tenant u → superblock_at (stored_tenant t tenants) u ≡ o
slot_read tenants t tenant lt e u o at = ap (λ r. superblock_at r u) (sym (get_or_read tenants t tenant lt e blank_of)) ∙ sym at

-- if top is at most WIDE_ORDER, `1 << top` in the code is 2 ^ top
pub size_is : (top : ℕ) → top ≤ WIDE_ORDER → 1 * 2 ^ top % 2 ^ 32 ≡ 2 ^ top
size_is top le = one_shl top 32 (omega arith)

-- if slot u has a superblock, u is below the number of slots
pub slot_within : (slots : List (Option ℕ)) (u m : ℕ) → get_or slots u None ≡ Some m → u < length slots
slot_within slots u m at = go (cases_lt u (length slots))
  where
    go : (u < length slots) ⊎ (length slots ≤ u) → u < length slots
    go (inl lt) = lt
    go (inr past) = absurd (none-some m (sym (get_or_past slots u None past) ∙ at))
