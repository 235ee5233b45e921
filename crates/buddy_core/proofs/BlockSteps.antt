-- If one taken block is added or removed, its tenant's invariants still hold, and contracts see this change and no other.
use Rattle.std.proofs.Common.{◌≡◌, ◌⊎◌, inl, inr, refl, sym, ◌∙◌, ap, ap₂, subst, ℕ, ◌+◌, ◌*◌, ◌/◌, ◌%◌, ◌^◌, ◌<◌, ◌≤◌, Bool, Option, Some, None, List, length, get_or, set, map, arith, length-set}
use Rattle.std.specs.Prelude.{if◌then◌else◌, ◌==◌, is_some, slice_index, count_by}
use Rattle.std.specs.List.{range_with_len}
use Rattle.std.proofs.lemmas.List.{get_or-set_same, get_or-set_other, same_lists}
use Rattle.std.proofs.lemmas.List.FromFn.{length-map-range_with_len, get_or-map-range_with_len}
use Rattle.std.proofs.lemmas.Option.{none-some, same_Some}
use Rattle.std.proofs.lemmas.Nat.{div-mul-add, mod-mul-add, shr_split}
use Rattle.std.proofs.lemmas.Bool.{cases_eq, cond-true, cond-false, eq-eqb, ne_eqb}
use Rattle.model_core.specs.Blocks.{Taken, block, IsSound}
use Rattle.model_core.specs.Choice.{is_available, is_free, count_below}
use Rattle.buddy_core.specs.Content.{Holding, has_order, taken_block_count}
use Rattle.buddy_core.specs.Tree.{Shows}
use Rattle.buddy_core.specs.Stored.{StoredSuperblock, StoredTenant, superblock_of, stored_tenant, superblock_at, held_by, order_under, taken_by, holding_shown}
use Rattle.buddy_core.specs.Kept.{IsKept, IsTenantKept}
use Rattle.buddy_core.proofs.ContentShown.{bare_of}
use Rattle.buddy_core.proofs.TenantChanged.{IsChange}
use Rattle.buddy_core.proofs.TreeSlots.{shows_same}

-- the taken blocks, with the entry at frame f replaced by o
abbrev pub changed : Taken → ℕ → Option ℕ → Taken
changed taken f o g = if g == f then o else taken g

pub changed_here : (taken : Taken) (f : ℕ) (o : Option ℕ) (g : ℕ) → g ≡ f → changed taken f o g ≡ o
changed_here taken f o g e = cond-true (g == f) o (taken g) (eq-eqb g f e)

pub changed_other : (taken : Taken) (f : ℕ) (o : Option ℕ) (g : ℕ) → (g ≡ f → ⊥) → changed taken f o g ≡ taken g
changed_other taken f o g ne = cond-false (g == f) o (taken g) (ne_eqb g f ne)

-- the table of `changed taken f o` at the first n frames is the table of `taken` with entry f replaced by o
pub map_changed : (taken : Taken) (n f : ℕ) (o : Option ℕ) → map (changed taken f o) (range_with_len 0 n) ≡ set (map taken (range_with_len 0 n)) f o
map_changed taken n f o = same_lists _ _
    (length-map-range_with_len (changed taken f o) 0 n ∙ sym (length-map-range_with_len taken 0 n) ∙ sym (length-set (map taken (range_with_len 0 n)) f o))
    (λ g d lt. each g d (subst (λ l. g < l) (length-map-range_with_len (changed taken f o) 0 n) lt) (cases_eq g f))
  where
    each : (g : ℕ) (d : Option ℕ) → g < n → (g ≡ f) ⊎ (g ≡ f → ⊥) → get_or (map (changed taken f o) (range_with_len 0 n)) g d ≡ get_or (set (map taken (range_with_len 0 n)) f o) g d
    each g d lt (inl e) =
        get_or-map-range_with_len (changed taken f o) 0 n g g d lt (omega arith)
        ∙ changed_here taken f o g e
        ∙ sym (ap (λ i. get_or (set (map taken (range_with_len 0 n)) f o) i d) e
        ∙ get_or-set_same (map taken (range_with_len 0 n)) f o d (subst (λ l. f < l) (sym (length-map-range_with_len taken 0 n)) (subst (λ i. i < n) e lt)))
    each g d lt (inr ne) =
        get_or-map-range_with_len (changed taken f o) 0 n g g d lt (omega arith)
        ∙ changed_other taken f o g ne
        ∙ sym (get_or-set_other (map taken (range_with_len 0 n)) f g o d ne ∙ get_or-map-range_with_len taken 0 n g g d lt (omega arith))

module _ (top : ℕ) (superblocks : List StoredSuperblock) (tenants : List StoredTenant) (t u m x : ℕ) (s : StoredSuperblock) (tenant : StoredTenant) (o : Option ℕ) where
  -- the number that the tenant uses for frame x of slot u
  abbrev pub frame : ℕ
  frame = u * 2 ^ top + x

  abbrev pub old_taken : Taken
  old_taken = taken_by top superblocks (stored_tenant t tenants)

  abbrev pub new_taken : Taken
  new_taken = changed (taken_by top superblocks (stored_tenant t tenants)) (u * 2 ^ top + x) o

  abbrev pub held : ℕ → Bool
  held = held_by (stored_tenant t tenants)

  -- `s` and `tenant` are superblock m and tenant t after o replaces the entry at frame x of the superblock
  pub record IsStep : Type 0 where
    pub listed : t < length tenants
    pub at : superblock_at (stored_tenant t tenants) u ≡ Some m
    pub inside : x < 2 ^ top
    pub stored : x < length (superblock_of m superblocks).orders
    pub order : s.tree.order ≡ (superblock_of m superblocks).tree.order
    pub orders : s.orders ≡ set (superblock_of m superblocks).orders x o
    pub slots : tenant.slots ≡ (stored_tenant t tenants).slots
    pub free_size : length tenant.free ≡ top + 1
    pub taken_size : length tenant.taken ≡ top + 1
    pub shows : Shows top (λ y. is_available top held new_taken (u * 2 ^ top + y)) s.tree.words
    pub elsewhere : (v y : ℕ) → (v ≡ u → ⊥) → y < 2 ^ top → is_available top held old_taken (v * 2 ^ top + y) ≡ is_available top held new_taken (v * 2 ^ top + y)
    pub sound : IsSound top held new_taken
    pub free : (k : ℕ) → k ≤ top → slice_index tenant.free k ≡ count_below (λ g. is_free top held new_taken (block g k)) (length superblocks * 2 ^ top)
    pub taken : (k : ℕ) → k ≤ top → slice_index tenant.taken k ≡ count_by (has_order k) (set (holding_shown top superblocks (stored_tenant t tenants)).taken frame o)

  module _ (kept : IsKept top superblocks tenants) (step : IsStep) where
    mine : IsTenantKept top superblocks (stored_tenant t tenants)
    mine = kept.each t step.listed

    m_lt : m < length superblocks
    m_lt = mine.within u m step.at

    frame_slot : (u * 2 ^ top + x) / 2 ^ top ≡ u
    frame_slot = div-mul-add u (2 ^ top) x step.inside

    frame_rest : (u * 2 ^ top + x) % 2 ^ top ≡ x
    frame_rest = mod-mul-add u (2 ^ top) x step.inside

    superblock_here : superblock_of m (set superblocks m s) ≡ s
    superblock_here = get_or-set_same superblocks m s bare_of m_lt

    slot_same : (v : ℕ) → superblock_at tenant v ≡ superblock_at (stored_tenant t tenants) v
    slot_same v = ap (λ (ss : List (Option ℕ)). get_or ss v None) step.slots

    held_same : held_by tenant ≡ held_by (stored_tenant t tenants)
    held_same = λ i v. ap is_some (slot_same v) i

    -- afterwards, the stored entry at frame g is the entry of `new_taken` at g
    found : (g : ℕ) (a : Option ℕ) → superblock_at (stored_tenant t tenants) (g / 2 ^ top) ≡ a → taken_by top (set superblocks m s) tenant g ≡ new_taken g
    found g None e =
        ap (λ a. order_under (set superblocks m s) a (g % 2 ^ top)) (slot_same (g / 2 ^ top) ∙ e)
        ∙ sym (changed_other old_taken frame o g off ∙ ap (λ a. order_under superblocks a (g % 2 ^ top)) e)
      where
        off : g ≡ frame → ⊥
        off same = none-some m (sym e ∙ ap (λ n. superblock_at (stored_tenant t tenants) (n / 2 ^ top)) same ∙ ap (superblock_at (stored_tenant t tenants)) frame_slot ∙ step.at)
    found g (Some i) e =
        ap (λ a. order_under (set superblocks m s) a (g % 2 ^ top)) (slot_same (g / 2 ^ top) ∙ e) ∙ go (cases_eq i m) (cases_eq (g % 2 ^ top) x)
      where
        old_at : old_taken g ≡ get_or (superblock_of i superblocks).orders (g % 2 ^ top) None
        old_at = ap (λ a. order_under superblocks a (g % 2 ^ top)) e

        go : (i ≡ m) ⊎ (i ≡ m → ⊥) → (g % 2 ^ top ≡ x) ⊎ (g % 2 ^ top ≡ x → ⊥) → get_or (superblock_of i (set superblocks m s)).orders (g % 2 ^ top) None ≡ new_taken g
        go (inr ne) _ =
            ap (λ (z : StoredSuperblock). get_or z.orders (g % 2 ^ top) None) (get_or-set_other superblocks m i s bare_of ne)
            ∙ sym old_at
            ∙ sym (changed_other old_taken frame o g (λ same. ne (same_Some i m (sym e ∙ ap (λ n. superblock_at (stored_tenant t tenants) (n / 2 ^ top)) same ∙ ap (superblock_at (stored_tenant t tenants)) frame_slot ∙ step.at))))
        go (inl same) (inl here) =
            let slot : g / 2 ^ top ≡ u = (kept.apart t (g / 2 ^ top) t u m (e ∙ ap Some same) step.at).1 in
            let is_frame : g ≡ u * 2 ^ top + x = sym (shr_split g top) ∙ ap₂ (λ a b. a * 2 ^ top + b) slot here in
            ap (λ n. get_or (superblock_of n (set superblocks m s)).orders (g % 2 ^ top) None) same
            ∙ ap (λ (z : StoredSuperblock). get_or z.orders (g % 2 ^ top) None) superblock_here
            ∙ ap (λ (os : List (Option ℕ)). get_or os (g % 2 ^ top) None) step.orders
            ∙ ap (λ n. get_or (set (superblock_of m superblocks).orders x o) n None) here
            ∙ get_or-set_same (superblock_of m superblocks).orders x o None step.stored
            ∙ sym (changed_here old_taken frame o g is_frame)
        go (inl same) (inr off) =
            ap (λ n. get_or (superblock_of n (set superblocks m s)).orders (g % 2 ^ top) None) same
            ∙ ap (λ (z : StoredSuperblock). get_or z.orders (g % 2 ^ top) None) superblock_here
            ∙ ap (λ (os : List (Option ℕ)). get_or os (g % 2 ^ top) None) step.orders
            ∙ get_or-set_other (superblock_of m superblocks).orders x (g % 2 ^ top) o None off
            ∙ ap (λ n. get_or (superblock_of n superblocks).orders (g % 2 ^ top) None) (sym same)
            ∙ sym old_at
            ∙ sym (changed_other old_taken frame o g (λ is_frame. off (ap (λ n. n % 2 ^ top) is_frame ∙ frame_rest)))

    taken_now : taken_by top (set superblocks m s) tenant ≡ new_taken
    taken_now = λ i g. found g (superblock_at (stored_tenant t tenants) (g / 2 ^ top)) refl i

    -- afterwards, the tenant holds what it held before, except that its entry at `frame` is o
    pub holding_now : holding_shown top (set superblocks m s) tenant ≡ record (holding_shown top superblocks (stored_tenant t tenants)) { taken = set (holding_shown top superblocks (stored_tenant t tenants)).taken frame o }
    holding_now =
        ap (λ (taken : Taken). held_from tenant.slots (map taken (range_with_len 0 (length tenant.slots * 2 ^ top)))) taken_now
        ∙ ap (λ (ss : List (Option ℕ)). held_from ss (map new_taken (range_with_len 0 (length ss * 2 ^ top)))) step.slots
        ∙ ap (held_from (stored_tenant t tenants).slots) (map_changed old_taken (length (stored_tenant t tenants).slots * 2 ^ top) frame o)
      where
        held_from : List (Option ℕ) → List (Option ℕ) → Holding
        held_from a b = record { slots = a; taken = b }

    tenant_now : IsTenantKept top (set superblocks m s) tenant
    tenant_now = record {
      sizes = record { slots = ap length step.slots ∙ mine.sizes.slots ∙ sym (length-set superblocks m s); free = step.free_size; taken = step.taken_size };
      within = λ v i there. subst (λ n. i < n) (sym (length-set superblocks m s)) (mine.within v i (sym (slot_same v) ∙ there));
      sound = subst (λ h. IsSound top h (taken_by top (set superblocks m s) tenant)) (sym held_same) (subst (λ (T : Taken). IsSound top held T) (sym taken_now) step.sound);
      shows = λ v i there. subst (λ h. Shows top (λ y. is_available top h (taken_by top (set superblocks m s) tenant) (v * 2 ^ top + y)) (superblock_of i (set superblocks m s)).tree.words) (sym held_same)
          (subst (λ (T : Taken). Shows top (λ y. is_available top held T (v * 2 ^ top + y)) (superblock_of i (set superblocks m s)).tree.words) (sym taken_now)
          (shown v i (sym (slot_same v) ∙ there) (cases_eq v u)));
      free = λ k le. step.free k le
          ∙ ap (λ (T : Taken). count_below (λ g. is_free top held T (block g k)) (length superblocks * 2 ^ top)) (sym taken_now)
          ∙ ap (λ h. count_below (λ g. is_free top h (taken_by top (set superblocks m s) tenant) (block g k)) (length superblocks * 2 ^ top)) (sym held_same)
          ∙ ap (λ n. count_below (λ g. is_free top (held_by tenant) (taken_by top (set superblocks m s) tenant) (block g k)) (n * 2 ^ top)) (sym (length-set superblocks m s));
      taken = λ k le. step.taken k le ∙ ap (taken_block_count k) (sym holding_now);
    }
      where
        shown : (v i : ℕ) → superblock_at (stored_tenant t tenants) v ≡ Some i → (v ≡ u) ⊎ (v ≡ u → ⊥) → Shows top (λ y. is_available top held new_taken (v * 2 ^ top + y)) (superblock_of i (set superblocks m s)).tree.words
        shown v i there (inl e) =
            let same : i ≡ m = same_Some i m (sym there ∙ ap (superblock_at (stored_tenant t tenants)) e ∙ step.at) in
            subst (λ n. Shows top (λ y. is_available top held new_taken (n * 2 ^ top + y)) (superblock_of i (set superblocks m s)).tree.words) (sym e)
            (subst (λ n. Shows top (λ y. is_available top held new_taken (u * 2 ^ top + y)) (superblock_of n (set superblocks m s)).tree.words) (sym same)
            (subst (λ (z : StoredSuperblock). Shows top (λ y. is_available top held new_taken (u * 2 ^ top + y)) z.tree.words) (sym superblock_here) step.shows))
        shown v i there (inr ne) =
            let other : i ≡ m → ⊥ = (λ same. ne (kept.apart t v t u m (there ∙ ap Some same) step.at).1) in
            subst (λ (z : StoredSuperblock). Shows top (λ y. is_available top held new_taken (v * 2 ^ top + y)) z.tree.words) (sym (get_or-set_other superblocks m i s bare_of other))
            (shows_same _ _ top (superblock_of i superblocks).tree.words (mine.shows v i there) (λ y lt. step.elsewhere v y ne lt))

    pub step_change : IsChange top superblocks tenants t m s tenant
    step_change = record {
      listed = step.listed;
      superblock = m_lt;
      order = step.order ∙ kept.order m m_lt;
      kept = tenant_now;
      others = λ v w ne there. ne (kept.apart v w t u m there step.at).0;
      own = λ a b i p q. (kept.apart t a t b i (sym (slot_same a) ∙ p) (sym (slot_same b) ∙ q)).1;
      had = λ a i p ne. (a, sym (slot_same a) ∙ p);
      has = λ a i p ne. (a, slot_same a ∙ p);
      left = λ unused. absurd (unused u (slot_same u ∙ step.at));
    }
