-- If page blocks of one tenant change, the holdings of all other tenants stay the same, and the parts still agree.
use Rattle.std.proofs.Common.{◌≡◌, ◌≢◌, ℕ, ◌*◌, ◌/◌, true, cond, List, None, Some, length, get_or, set, refl, sym, ap, ◌∙◌, subst, ⊎_elim, get_or-set_same, get_or-set_other, arith}
use Rattle.std.specs.Prelude.{Option, is_some, ◌==◌, slice_index_or}
use Rattle.std.proofs.lemmas.Bool.{cases_eq, cases_lt, eq-eqb, ne_eqb}
use Rattle.std.proofs.lemmas.List.{length-set, get_or_past}
use Rattle.model_core.specs.declared.limits.TheConstants.{MAX_CACHES}
use Rattle.klist_core.specs.Places.{place_at}
use Rattle.space_core.specs.Content as spaces
use Rattle.space_core.specs.Laws.{IsSameFor}
use Rattle.buddy_core.specs.Content as buddies
use Rattle.slab_tables.specs.declared.cache.Cache as own
use Rattle.slab_tables.specs.Content.{Content, layout_numbers}
use Rattle.machine_changes.specs.Shows.{machine_frame_of, has_slab, IsAgreed, Agree}
use Rattle.machine_changes.specs.Keeps.{IsSameCaches, Spares}
use Rattle.machine_changes.proofs.Lookups.{some_none}

other_holding : (t u : ℕ) (h : buddies.Holding) (c : buddies.Content) → u ≢ t → buddies.holding_of u (buddies.with_holding t h c) ≡ buddies.holding_of u c
other_holding t u h c other = get_or-set_other c.tenants t u h buddies.no_tenant other

-- Let the holding of tenant t be replaced by `change` of this holding. If `change` leaves `no_tenant` unchanged, t then has the
-- changed holding, even if there is no tenant t.
pub own_changed : (t : ℕ) (change : buddies.Holding → buddies.Holding) (c : buddies.Content) → change buddies.no_tenant ≡ buddies.no_tenant
    → buddies.holding_of t (buddies.with_holding t (change (buddies.holding_of t c)) c) ≡ change (buddies.holding_of t c)
own_changed t change c nothing =
    ⊎_elim
    (λ below. get_or-set_same c.tenants t (change (buddies.holding_of t c)) buddies.no_tenant below)
    (λ past.
    get_or_past (set c.tenants t (change (buddies.holding_of t c))) t buddies.no_tenant (let long = length-set c.tenants t (change (buddies.holding_of t c)) in omega (arith, long))
    ∙ sym (ap change (get_or_past c.tenants t buddies.no_tenant past) ∙ nothing))
    (cases_lt t (length c.tenants))

-- after entry i is set to None, a lookup of i returns None, and all other lookups are unchanged
pub set_none : (xs : List (Option ℕ)) (i j : ℕ) → get_or (set xs i None) j None ≡ cond (j == i) None (get_or xs j None)
set_none xs i j =
    ⊎_elim
    (λ same.
    ap (λ n. get_or (set xs i None) n None) same
    ∙ ⊎_elim
    (λ below. get_or-set_same xs i None None below)
    (λ past. get_or_past (set xs i None) i None (let long = length-set xs i None in omega (arith, long)))
    (cases_lt i (length xs))
    ∙ sym (ap (λ b. cond b None (get_or xs j None)) (eq-eqb j i same)))
    (λ other. get_or-set_other xs i j None None other ∙ sym (ap (λ b. cond b None (get_or xs j None)) (ne_eqb j i other)))
    (cases_eq j i)

pub same_space : (t : ℕ) (r : spaces.Content) → IsSameFor t r r
same_space t r = record { slots = λ u. refl; banks = λ u m here. refl; bytes = λ place. refl; windows = λ place len. refl }

pub same_caches : (t : ℕ) (r : spaces.Content) (s : Content) → IsSameCaches t r s s
same_caches t r s = record { top = refl; caches = λ c. refl; lists = λ f n under. refl; kept = λ f n under. refl }

-- the holding of tenant t becomes h, which has the same slots as before, and the same taken block at the first frame of each slab
module _ (r : spaces.Content) (b : buddies.Content) (s : Content) (t : ℕ) (a : Agree r b s) (h : buddies.Holding)
    (is : buddies.holding_of t (buddies.with_holding t h b) ≡ h) (slots : h.slots ≡ (buddies.holding_of t b).slots)
    (stays : (f : ℕ) → has_slab s (machine_frame_of s.top r.slots t f) ≡ true → buddies.taken_of (buddies.holding_of t b) f ≢ None → buddies.taken_of h f ≡ buddies.taken_of (buddies.holding_of t b) f) where
  abbrev b' : buddies.Content
  b' = buddies.with_holding t h b

  slots_same : (u : ℕ) → (buddies.holding_of u b').slots ≡ (buddies.holding_of u b).slots
  slots_same u =
      ⊎_elim
      (λ (same : u ≡ t). ap (λ v. (buddies.holding_of v b').slots) same ∙ (ap (λ x. x.slots) is ∙ (slots ∙ ap (λ v. (buddies.holding_of v b).slots) (sym same))))
      (λ (other : u ≢ t). ap (λ x. x.slots) (other_holding t u h b other))
      (cases_eq u t)

  -- the taken block of each slab of each tenant is unchanged
  taken_stays : (machine_frame head key : ℕ) (cache : own.Cache) → place_at s.lists.places machine_frame ≡ Some (head, key) → IsAgreed r b s machine_frame head key cache
      → (u : ℕ) → head / 3 / MAX_CACHES ≡ u → buddies.taken_of (buddies.holding_of u b') key ≡ buddies.taken_of (buddies.holding_of u b) key
  taken_stays machine_frame head key cache place x u tenant =
      ⊎_elim
      (λ (same : u ≡ t).
      let mine : head / 3 / MAX_CACHES ≡ t = tenant ∙ same in
      let has : has_slab s (machine_frame_of s.top r.slots t key) ≡ true =
      ap (λ v. has_slab s (machine_frame_of s.top r.slots v key)) (sym mine) ∙ (ap (has_slab s) x.under ∙ ap is_some place) in
      let taken = subst (λ v. buddies.taken_of (buddies.holding_of v b) key ≡ Some (layout_numbers cache).order) mine x.taken in
      subst (λ v. buddies.taken_of (buddies.holding_of v b') key ≡ buddies.taken_of (buddies.holding_of v b) key) (sym same)
      (ap (λ y. buddies.taken_of y key) is ∙ stays key has (λ none. some_none (sym taken ∙ none))))
      (λ (other : u ≢ t). ap (λ y. buddies.taken_of y key) (other_holding t u h b other))
      (cases_eq u t)

  pub agree_held : Agree r b' s
  agree_held = record {
    order = a.order;
    unit = a.unit;
    superblocks = a.superblocks;
    machine_frames = a.machine_frames;
    rows = a.rows ∙ sym (length-set b.tenants t h);
    tenants = a.tenants ∙ ap (λ n. MAX_CACHES * n) (sym (length-set b.tenants t h));
    slots = λ u v. ap (λ xs. slice_index_or xs v None) (slots_same u) ∙ a.slots u v;
    slabs = λ machine_frame head key cache place cached.
        let x = a.slabs machine_frame head key cache place cached in
        record {
          under = x.under;
          taken = taken_stays machine_frame head key cache place x (head / 3 / MAX_CACHES) refl ∙ x.taken;
          counted = x.counted;
          rest = x.rest;
        };
  }

  pub spares_held : Spares t r r b b' s s
  spares_held = record {
    others = λ u other. record { space = same_space u r; buddy = other_holding t u h b other; slabs = same_caches u r s };
    space = refl;
    buddy = ap (λ y. buddies.with_holding t y b) (sym is);
    spare = λ m none. refl;
  }
