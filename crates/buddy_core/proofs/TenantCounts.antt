-- How large the counts of one tenant can be, and how a count of taken blocks changes.
use Rattle.std.proofs.Common.{◌≡◌, ◌⊎◌, inl, inr, sym, ◌∙◌, ap, subst, ℕ, ◌+◌, ◌*◌, ◌^◌, ◌<◌, ◌≤◌, cond, Option, Some, None, List, length, get_or, set, arith}
use Rattle.std.specs.Prelude.{slice_index, count_by}
use Rattle.std.proofs.lemmas.List.{get_or_past}
use Rattle.std.proofs.lemmas.List.Sums.{sum_by-set, count_by-le-length}
use Rattle.std.proofs.lemmas.List.FromFn.{length-map-range_with_len}
use Rattle.std.proofs.lemmas.Nat.{pow_below}
use Rattle.std.proofs.lemmas.Bool.{cases_lt, cases_eq, eq-eqb, ne_eqb}
use Rattle.model_core.specs.declared.limits.TheConstants.{WIDE_SUPERBLOCKS}
use Rattle.model_core.specs.Blocks.{block}
use Rattle.model_core.specs.Choice.{is_free}
use Rattle.buddy_core.specs.Content.{has_order}
use Rattle.buddy_core.specs.Stored.{StoredSuperblock, StoredTenant, stored_tenant, superblock_at, held_by, taken_by, holding_shown}
use Rattle.buddy_core.specs.Kept.{IsKept, IsTenantKept}
use Rattle.buddy_core.specs.Counts.{CanCountMore, IsTakenOut}
use Rattle.buddy_core.proofs.ContentShown.{slot_within}
use Rattle.model_core.proofs.CountBelow.{count_le, bit}

pow_le : (i j : ℕ) → i ≤ j → 2 ^ i ≤ 2 ^ j
pow_le i j le = go (cases_lt i j)
  where
    go : (i < j) ⊎ (j ≤ i) → 2 ^ i ≤ 2 ^ j
    go (inl lt) = let less = pow_below i j lt in omega arith
    go (inr ge) = let same : i ≡ j = omega arith in subst (λ n. 2 ^ i ≤ 2 ^ n) same (omega arith)

module _ (top : ℕ) (superblocks : List StoredSuperblock) (tenants : List StoredTenant) (kept : IsKept top superblocks tenants) where
  module _ (t : ℕ) (listed : t < length tenants) where
    mine : IsTenantKept top superblocks (stored_tenant t tenants)
    mine = kept.each t listed

    free_room : (i : ℕ) → slice_index (stored_tenant t tenants).free i + 1 < 2 ^ 32
    free_room i = go (cases_lt top i)
      where
        go : (top < i) ⊎ (i ≤ top) → slice_index (stored_tenant t tenants).free i + 1 < 2 ^ 32
        go (inl past) = let none = get_or_past (stored_tenant t tenants).free i 0 (let size = mine.sizes.free in omega arith) in omega arith
        go (inr le) =
            let is = mine.free i le in
            let bound = count_le (λ f. is_free top (held_by (stored_tenant t tenants)) (taken_by top superblocks (stored_tenant t tenants)) (block f i)) (length superblocks * 2 ^ top) in
            let few = kept.frames in
            omega arith

    pub table_size : length (holding_shown top superblocks (stored_tenant t tenants)).taken ≡ length superblocks * 2 ^ top
    table_size = length-map-range_with_len (taken_by top superblocks (stored_tenant t tenants)) 0 (length (stored_tenant t tenants).slots * 2 ^ top) ∙ ap (λ n. n * 2 ^ top) mine.sizes.slots

    taken_room : (i : ℕ) → slice_index (stored_tenant t tenants).taken i + 1 < 2 ^ 32
    taken_room i = go (cases_lt top i)
      where
        go : (top < i) ⊎ (i ≤ top) → slice_index (stored_tenant t tenants).taken i + 1 < 2 ^ 32
        go (inl past) = let none = get_or_past (stored_tenant t tenants).taken i 0 (let size = mine.sizes.taken in omega arith) in omega arith
        go (inr le) =
            let is = mine.taken i le in
            let bound = count_by-le-length (has_order i) (holding_shown top superblocks (stored_tenant t tenants)).taken in
            let size = table_size in
            let few = kept.frames in
            omega arith

    -- each count can rise by 1 without an overflow
    pub room : CanCountMore (stored_tenant t tenants)
    room i = (free_room i, taken_room i)

-- Let o replace entry f of the table of taken blocks. The count for order i falls by 1 if the old entry was i, and rises by 1
-- if o is i.
pub count_set : (xs : List (Option ℕ)) (f i : ℕ) (o : Option ℕ) → f < length xs → count_by (has_order i) (set xs f o) + bit (has_order i (get_or xs f None)) ≡ count_by (has_order i) xs + bit (has_order i o)
count_set xs f i o lt = sum_by-set (λ x. cond (has_order i x) 1 0) xs f o None lt

pub order_here : (k i : ℕ) → i ≡ k → bit (has_order i (Some k)) ≡ 1
order_here k i e = ap bit (eq-eqb k i (sym e))

pub order_other : (k i : ℕ) → (i ≡ k → ⊥) → bit (has_order i (Some k)) ≡ 0
order_other k i ne = ap bit (ne_eqb k i (λ e. ne (sym e)))

-- when a block of order k is taken, the count of taken blocks rises by 1 for order k and stays the same for every other order
pub taken_bit : (k j : ℕ) (whole part : StoredTenant) → IsTakenOut k j whole part → (i : ℕ) → slice_index part.taken i ≡ slice_index whole.taken i + bit (has_order i (Some k))
taken_bit k j whole part out i = go (cases_eq i k)
  where
    go : (i ≡ k) ⊎ (i ≡ k → ⊥) → slice_index part.taken i ≡ slice_index whole.taken i + bit (has_order i (Some k))
    go (inl e) = subst (λ n. slice_index part.taken n ≡ slice_index whole.taken n + 1) (sym e) out.taken ∙ ap (λ n. slice_index whole.taken i + n) (sym (order_here k i e))
    go (inr ne) = let none = order_other k i ne in let same = out.rest i ne in omega arith

-- a slot that has a superblock has a number below WIDE_SUPERBLOCKS
pub slot_small : (top : ℕ) (superblocks : List StoredSuperblock) (tenants : List StoredTenant) → IsKept top superblocks tenants → (t : ℕ) → t < length tenants → (u m : ℕ) → superblock_at (stored_tenant t tenants) u ≡ Some m → u < WIDE_SUPERBLOCKS
slot_small top superblocks tenants kept t listed u m at =
    let lt = slot_within (stored_tenant t tenants).slots u m at in
    let size = (kept.each t listed).sizes.slots in
    let few = kept.few in
    omega arith
