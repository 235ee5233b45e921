-- If one tenant loses all that it holds, `IsKept` stays true.
use Rattle.std.proofs.Common.{◌≡◌, ◌⊎◌, inl, inr, refl, sym, ◌∙◌, ap, subst, ℕ, zero, suc, ◌+◌, ◌-◌, ◌*◌, ◌^◌, ◌<◌, ◌≤◌, ◌==◌, Bool, false, Option, Some, None, List, [], length, get_or, set, arith, length-set}
use Rattle.std.specs.Int.{bit_at}
use Rattle.std.proofs.lemmas.List.{get_or-set_same, get_or-set_other, length-replicate, set-get_or}
use Rattle.std.proofs.lemmas.Nat.Bits.{bit_at-zero}
use Rattle.std.proofs.lemmas.Option.{none-some, same_Some}
use Rattle.std.proofs.lemmas.Bool.{cases_lt, cases_eq}
use Rattle.model_core.specs.declared.limits.TheConstants.{WIDE_SUPERBLOCKS, WIDE_TENANTS, WIDE_FRAMES}
use Rattle.model_core.proofs.Lists.{everywhere}
use Rattle.buddy_core.specs.Content.{with_holding, nothing_held}
use Rattle.buddy_core.specs.Stored.{StoredSuperblock, StoredTenant, bare_superblock, bare_tenant, superblock_of, stored_tenant, superblock_at, taken_by, content_shown}
use Rattle.buddy_core.specs.Summary.{is_source, AreExact}
use Rattle.buddy_core.specs.Kept.{IsKept, IsTenantKept}
use Rattle.buddy_core.proofs.ContentShown.{taken_as_before, blank_of, bare_of, content_replaced, slot_within}
use Rattle.buddy_core.proofs.ExactSummaries.{IsNoted, source_here, exact_kept, exact_noted, summary_same}
use Rattle.buddy_core.proofs.TenantChanged.{tenant_stays}
use Rattle.buddy_core.proofs.NothingHeld.{blank_kept, blank_holding}

-- in `after`, the superblocks in the first n slots of the tenant are blank, and all others are as in `before`
pub record Cleared (top : ℕ) (before after : List StoredSuperblock) (tenant : StoredTenant) (n : ℕ) : Type 0 where
  pub size : length after ≡ length before
  pub gone : (w m : ℕ) → w < n → superblock_at tenant w ≡ Some m → superblock_of m after ≡ bare_superblock top
  pub stays : (m : ℕ) → ((w : ℕ) → w < n → superblock_at tenant w ≡ Some m → ⊥) → superblock_of m after ≡ superblock_of m before

pub cleared_none : (top : ℕ) (before : List StoredSuperblock) (tenant : StoredTenant) → Cleared top before before tenant 0
cleared_none top before tenant = record { size = refl; gone = λ w m lt at. absurd (omega arith); stays = λ m off. refl }

pub cleared_past : (top : ℕ) (before after : List StoredSuperblock) (tenant : StoredTenant) (n : ℕ) → ((m : ℕ) → superblock_at tenant n ≡ Some m → ⊥) → Cleared top before after tenant n → Cleared top before after tenant (n + 1)
cleared_past top before after tenant n off c = record {
  size = c.size;
  gone = λ w m lt at. go w m lt at (cases_lt w n);
  stays = λ m away. c.stays m (λ w lt at. away w (omega arith) at);
}
  where
    go : (w m : ℕ) → w < n + 1 → superblock_at tenant w ≡ Some m → (w < n) ⊎ (n ≤ w) → superblock_of m after ≡ bare_superblock top
    go w m lt at (inl below) = c.gone w m below at
    go w m lt at (inr here) = absurd (off m (ap (superblock_at tenant) (let e : n ≡ w = omega arith in e) ∙ at))

-- if no slot from slot u on has a superblock, the first u + n slots are cleared as soon as the first u are
pub cleared_on : (top : ℕ) (before after : List StoredSuperblock) (tenant : StoredTenant) (u : ℕ) → Cleared top before after tenant u → ((v : ℕ) → u ≤ v → superblock_at tenant v ≡ None) → (n : ℕ) → Cleared top before after tenant (u + n)
cleared_on top before after tenant u c rest zero = subst (Cleared top before after tenant) (omega arith) c
cleared_on top before after tenant u c rest (suc n) =
    subst (Cleared top before after tenant) (omega arith)
    (cleared_past top before after tenant (u + n) (λ m there. none-some m (sym (rest (u + n) (omega arith)) ∙ there)) (cleared_on top before after tenant u c rest n))

pub cleared_more : (top : ℕ) (before after : List StoredSuperblock) (tenant : StoredTenant) (n m : ℕ) (s : StoredSuperblock) → superblock_at tenant n ≡ Some m → m < length before → s ≡ bare_superblock top
    → ((w v i : ℕ) → superblock_at tenant w ≡ Some i → superblock_at tenant v ≡ Some i → w ≡ v) → Cleared top before after tenant n → Cleared top before (set after m s) tenant (n + 1)
cleared_more top before after tenant n m s at lt blank apart c = record {
  size = length-set after m s ∙ c.size;
  gone = λ w i w_lt there. go w i w_lt there (cases_eq i m);
  stays = λ i away. get_or-set_other after m i s bare_of (λ e. away n (omega arith) (at ∙ ap Some (sym e))) ∙ c.stays i (λ w w_lt there. away w (omega arith) there);
}
  where
    go : (w i : ℕ) → w < n + 1 → superblock_at tenant w ≡ Some i → (i ≡ m) ⊎ (i ≡ m → ⊥) → superblock_of i (set after m s) ≡ bare_superblock top
    go w i w_lt there (inl e) = ap (λ j. superblock_of j (set after m s)) e ∙ get_or-set_same after m s bare_of (subst (λ l. m < l) (sym c.size) lt) ∙ blank
    go w i w_lt there (inr ne) = get_or-set_other after m i s bare_of ne ∙ c.gone w i (before_n (cases_lt w n)) there
      where
        before_n : (w < n) ⊎ (n ≤ w) → w < n
        before_n (inl below) = below
        before_n (inr here) =
            let last : w ≡ n = omega arith in
            absurd (ne (same_Some i m (sym there ∙ ap (superblock_at tenant) last ∙ at)))

-- the superblock in slot n, which is cleared next, is still as it was
pub next_same : (top : ℕ) (before after : List StoredSuperblock) (tenant : StoredTenant) (n m : ℕ) → superblock_at tenant n ≡ Some m
    → ((w v i : ℕ) → superblock_at tenant w ≡ Some i → superblock_at tenant v ≡ Some i → w ≡ v) → Cleared top before after tenant n → superblock_of m after ≡ superblock_of m before
next_same top before after tenant n m at apart c = c.stays m (λ w lt there. let e = apart w n m there at in omega arith)

-- a superblock that is blank has no free block
pub bare_source : (top : ℕ) (superblocks : List StoredSuperblock) (m j : ℕ) → superblock_of m superblocks ≡ bare_superblock top → is_source superblocks j (Some m) ≡ false
bare_source top superblocks m j blank =
    ap (λ (z : StoredSuperblock). bit_at (get_or z.tree.words 0 0) j == 1) blank
    ∙ ap (λ n. bit_at n j == 1) (everywhere 0 (2 ^ (top + 1) - 1) 0)
    ∙ ap (λ n. n == 1) (bit_at-zero j)

-- either one of the first n slots has superblock i, or none of them has
under : (tenant : StoredTenant) (i n : ℕ) → ((w : ℕ) × (w < n) × (superblock_at tenant w ≡ Some i)) ⊎ ((w : ℕ) → w < n → superblock_at tenant w ≡ Some i → ⊥)
under tenant i zero = inr (λ w lt at. omega arith)
under tenant i (suc n) = go (under tenant i n) (superblock_at tenant n) refl
  where
    last : ((w : ℕ) → w < n → superblock_at tenant w ≡ Some i → ⊥) → (superblock_at tenant n ≡ Some i → ⊥) → (w : ℕ) → w < suc n → superblock_at tenant w ≡ Some i → ⊥
    last none off w lt at = here (cases_lt w n)
      where
        here : (w < n) ⊎ (n ≤ w) → ⊥
        here (inl below) = none w below at
        here (inr past) = off (ap (superblock_at tenant) (let e : n ≡ w = omega arith in e) ∙ at)

    go : ((w : ℕ) × (w < n) × (superblock_at tenant w ≡ Some i)) ⊎ ((w : ℕ) → w < n → superblock_at tenant w ≡ Some i → ⊥) → (o : Option ℕ) → superblock_at tenant n ≡ o
        → ((w : ℕ) × (w < suc n) × (superblock_at tenant w ≡ Some i)) ⊎ ((w : ℕ) → w < suc n → superblock_at tenant w ≡ Some i → ⊥)
    go (inl (w, lt, at)) o e = inl (w, omega arith, at)
    go (inr none) None e = inr (last none (λ at. none-some i (sym e ∙ at)))
    go (inr none) (Some j) e = by (cases_eq j i)
      where
        by : (j ≡ i) ⊎ (j ≡ i → ⊥) → ((w : ℕ) × (w < suc n) × (superblock_at tenant w ≡ Some i)) ⊎ ((w : ℕ) → w < suc n → superblock_at tenant w ≡ Some i → ⊥)
        by (inl same) = inl (n, omega arith, e ∙ ap Some same)
        by (inr ne) = inr (last none (λ at. ne (same_Some j i (sym e ∙ at))))

module _ (top : ℕ) (superblocks : List StoredSuperblock) (tenants : List StoredTenant) (kept : IsKept top superblocks tenants) (t : ℕ) (listed : t < length tenants) (after : List StoredSuperblock) (n : ℕ) (all : length superblocks ≤ n)
    (c : Cleared top superblocks after (stored_tenant t tenants) n) where
  mine : IsTenantKept top superblocks (stored_tenant t tenants)
  mine = kept.each t listed

  slot_lt : (w m : ℕ) → superblock_at (stored_tenant t tenants) w ≡ Some m → w < n
  slot_lt w m at = let lt = slot_within (stored_tenant t tenants).slots w m at in let size = mine.sizes.slots in omega arith

  other_superblock : (v u i : ℕ) → (v ≡ t → ⊥) → superblock_at (stored_tenant v tenants) u ≡ Some i → superblock_of i after ≡ superblock_of i superblocks
  other_superblock v u i ne at = c.stays i (λ w lt there. ne (kept.apart v u t w i at there).0)

  other_taken : (v : ℕ) → (v ≡ t → ⊥) → taken_by top after (stored_tenant v tenants) ≡ taken_by top superblocks (stored_tenant v tenants)
  other_taken v ne = taken_as_before top superblocks after (stored_tenant v tenants) (stored_tenant v tenants) (record { held = refl; same = λ u i at. (i, at, other_superblock v u i ne at) })

  tenant_here : (v : ℕ) → v ≡ t → stored_tenant v (set tenants t (bare_tenant top (length superblocks))) ≡ bare_tenant top (length superblocks)
  tenant_here v e = ap (λ i. stored_tenant i (set tenants t (bare_tenant top (length superblocks)))) e ∙ get_or-set_same tenants t (bare_tenant top (length superblocks)) blank_of listed

  tenant_other : (v : ℕ) → (v ≡ t → ⊥) → stored_tenant v (set tenants t (bare_tenant top (length superblocks))) ≡ stored_tenant v tenants
  tenant_other v ne = get_or-set_other tenants t v (bare_tenant top (length superblocks)) blank_of ne

  -- afterwards, tenant t has no superblock in any slot
  none_here : (v u i : ℕ) → v ≡ t → superblock_at (stored_tenant v (set tenants t (bare_tenant top (length superblocks)))) u ≡ Some i → ⊥
  none_here v u i e at = none-some i (sym (everywhere None (length superblocks) u) ∙ sym (ap (λ r. superblock_at r u) (tenant_here v e)) ∙ at)

  was : (v u i : ℕ) → superblock_at (stored_tenant v (set tenants t (bare_tenant top (length superblocks)))) u ≡ Some i → (v ≡ t) ⊎ (v ≡ t → ⊥) → superblock_at (stored_tenant v tenants) u ≡ Some i
  was v u i at (inl e) = absurd (none_here v u i e at)
  was v u i at (inr ne) = sym (ap (λ r. superblock_at r u) (tenant_other v ne)) ∙ at

  each_kept : (v : ℕ) → v < length (set tenants t (bare_tenant top (length superblocks))) → (v ≡ t) ⊎ (v ≡ t → ⊥) → IsTenantKept top after (stored_tenant v (set tenants t (bare_tenant top (length superblocks))))
  each_kept v lt (inl e) = subst (IsTenantKept top after) (ap (bare_tenant top) c.size ∙ sym (tenant_here v e)) (blank_kept top after)
  each_kept v lt (inr ne) = subst (IsTenantKept top after) (sym (tenant_other v ne))
      (tenant_stays top superblocks after (stored_tenant v tenants) c.size (λ u i at. other_superblock v u i ne at) (kept.each v (subst (λ l. v < l) (length-set tenants t (bare_tenant top (length superblocks))) lt)))

  superblock_now : (i : ℕ) → ((w : ℕ) × (w < n) × (superblock_at (stored_tenant t tenants) w ≡ Some i)) ⊎ ((w : ℕ) → w < n → superblock_at (stored_tenant t tenants) w ≡ Some i → ⊥)
      → (superblock_of i after ≡ bare_superblock top) ⊎ (superblock_of i after ≡ superblock_of i superblocks)
  superblock_now i (inl (w, lt, at)) = inl (c.gone w i lt at)
  superblock_now i (inr none) = inr (c.stays i none)

  order_now : (i : ℕ) → i < length after → (superblock_of i after ≡ bare_superblock top) ⊎ (superblock_of i after ≡ superblock_of i superblocks) → (superblock_of i after).tree.order ≡ top
  order_now i lt (inl e) = ap (λ (z : StoredSuperblock). z.tree.order) e
  order_now i lt (inr e) = ap (λ (z : StoredSuperblock). z.tree.order) e ∙ kept.order i (subst (λ l. i < l) c.size lt)

  bare_now : (i : ℕ) → i < length after → ((v u : ℕ) → superblock_at (stored_tenant v (set tenants t (bare_tenant top (length superblocks)))) u ≡ Some i → ⊥)
      → ((w : ℕ) × (w < n) × (superblock_at (stored_tenant t tenants) w ≡ Some i)) ⊎ ((w : ℕ) → w < n → superblock_at (stored_tenant t tenants) w ≡ Some i → ⊥) → superblock_of i after ≡ bare_superblock top
  bare_now i lt unused (inl (w, w_lt, at)) = c.gone w i w_lt at
  bare_now i lt unused (inr none) = c.stays i none ∙ kept.bare i (subst (λ l. i < l) c.size lt) (λ v u at. before v u at (cases_eq v t))
    where
      before : (v u : ℕ) → superblock_at (stored_tenant v tenants) u ≡ Some i → (v ≡ t) ⊎ (v ≡ t → ⊥) → ⊥
      before v u at (inl e) = let mine_at = ap (λ x. superblock_at (stored_tenant x tenants) u) (sym e) ∙ at in none u (slot_lt u i mine_at) mine_at
      before v u at (inr ne) = unused v u (ap (λ r. superblock_at r u) (tenant_other v ne) ∙ at)

  pub reset_kept : IsKept top after (set tenants t (bare_tenant top (length superblocks)))
  reset_kept = record {
    small = kept.small;
    few = subst (λ l. l ≤ WIDE_SUPERBLOCKS) (sym c.size) kept.few;
    frames = subst (λ l. l * 2 ^ top ≤ WIDE_FRAMES) (sym c.size) kept.frames;
    few_tenants = subst (λ l. l ≤ WIDE_TENANTS) (sym (length-set tenants t (bare_tenant top (length superblocks)))) kept.few_tenants;
    order = λ i lt. order_now i lt (superblock_now i (under (stored_tenant t tenants) i n));
    each = λ v lt. each_kept v lt (cases_eq v t);
    apart = λ v u z w i a b. kept.apart v u z w i (was v u i a (cases_eq v t)) (was z w i b (cases_eq z t));
    bare = λ i lt unused. bare_now i lt unused (under (stored_tenant t tenants) i n);
  }

  pub reset_shown : content_shown top after (set tenants t (bare_tenant top (length superblocks))) ≡ with_holding t (nothing_held top (length superblocks)) (content_shown top superblocks tenants)
  reset_shown = content_replaced top superblocks tenants t after (bare_tenant top (length superblocks)) (nothing_held top (length superblocks)) c.size
      (λ v ne lt. other_taken v ne) (blank_holding top after (length superblocks))

  -- after the superblocks in its slots are cleared, the tenant's sets are empty, as they have to be once it holds nothing
  pub reset_exact : (summaries : List (List (List Bool))) → AreExact after tenants summaries → AreExact after (set tenants t (bare_tenant top (length superblocks))) summaries
  reset_exact summaries exact =
      exact_kept after after tenants summaries exact t (bare_tenant top (length superblocks)) listed
      (summary_same after after (stored_tenant t tenants) (bare_tenant top (length superblocks)) (mine.sizes.slots ∙ sym (length-replicate {A = Option ℕ} (length superblocks) None)) (mine.sizes.free ∙ sym (length-replicate {A = ℕ} (top + 1) 0))
      (λ j u. none_in j u (superblock_at (stored_tenant t tenants) u) refl ∙ sym (ap (is_source after j) (everywhere None (length superblocks) u))))
      (λ v ne lt. refl)
    where
      none_in : (j u : ℕ) (o : Option ℕ) → superblock_at (stored_tenant t tenants) u ≡ o → is_source after j o ≡ false
      none_in j u None at = refl
      none_in j u (Some m) at = bare_source top after m j (c.gone u m (slot_lt u m at) at)

-- when the superblock in a slot is cleared, it is noted with the word of an empty slot
pub cleared_exact : (top : ℕ) (superblocks after : List StoredSuperblock) (tenants : List StoredTenant) (summaries : List (List (List Bool))) → IsKept top superblocks tenants → AreExact after tenants summaries
    → (t slot m : ℕ) (s : StoredSuperblock) → t < length tenants → superblock_at (stored_tenant t tenants) slot ≡ Some m → m < length after → s ≡ bare_superblock top
    → (before sets : List (List Bool)) → before ≡ get_or summaries t before → length sets ≡ length before → ((j : ℕ) → get_or sets j [] ≡ set (get_or before j []) slot (bit_at 0 j == 1)) → AreExact (set after m s) tenants (set summaries t sets)
cleared_exact top superblocks after tenants summaries kept exact t slot m s listed at lt blank before sets read size written =
    subst (λ (ts : List StoredTenant). AreExact (set after m s) ts (set summaries t sets)) (set-get_or tenants t blank_of)
    (exact_noted after tenants summaries exact t m slot s (stored_tenant t tenants) 0 noted before sets read size written)
  where
    noted : IsNoted after tenants t m slot s (stored_tenant t tenants) 0
    noted = record {
      listed = listed;
      slots = refl;
      free = refl;
      others = λ v u ne there. ne (kept.apart v u t slot m there at).0;
      same = λ u ne. refl;
      apart = λ u ne there. ne (kept.apart t u t slot m there at).1;
      here = λ j. source_here after m s (superblock_at (stored_tenant t tenants) slot) j 0 at lt (ap (λ (z : StoredSuperblock). get_or z.tree.words 0 0) blank ∙ everywhere 0 (2 ^ (top + 1) - 1) 0);
    }
