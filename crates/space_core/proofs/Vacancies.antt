-- The sets of superblocks without an owner and of vacant slots follow the owners and the slots.
use Rattle.std.proofs.Common.{◌≡◌, ℕ, zero, suc, ◌<◌, ◌+◌, true, false, Bool, cond, List, [], ◌∷◌, Option, Some, None, is_none, length, map, position, ap, sym, ◌∙◌, refl, get_or, set, replicate, nat_lt, arith}
use Rattle.std.specs.List.{position_or_len}
use Rattle.std.proofs.lemmas.List.{length-map, map-set, set-get_or}
use Rattle.std.proofs.lemmas.List.Recursion.{is_position_or_len}
use Rattle.std.proofs.Math.ListN.{get_or-map}
use Rattle.model_core.specs.declared.owner.Owner.{Owner}
use Rattle.space_core.specs.Content.{slots_of, superblock_at}
use Rattle.space_core.specs.Changes.{with_entry}
use Rattle.space_core.specs.Vacancy.{vacant_of, with_vacant, IsVacancy}

first_step : {A : Type 0} (x : Option A) (xs : List (Option A))
    → position_or_len (λ b. b) (map is_none (x ∷ xs)) ≡ cond (is_none x) 0 (1 + position_or_len (λ b. b) (map is_none xs))
first_step None xs = refl
first_step (Some x) xs = omega arith

pub map_replicate : {A B : Type 0} (f : A → B) (n : ℕ) (a : A) → map f (replicate n a) ≡ replicate n (f a)
map_replicate f zero a = refl
map_replicate f (suc n) a = ap (λ xs. f a ∷ xs) (map_replicate f n a)

-- the least number in the set of the entries that are None is the index of the first None
pub least_none : {A : Type 0} (xs : List (Option A)) → position (λ b. b) (map is_none xs) ≡ position is_none xs
least_none {A} xs =
    let first = is_position_or_len (λ (ys : List (Option A)). position_or_len (λ b. b) (map is_none ys)) is_none refl first_step xs in
    ap (λ n. cond (nat_lt n (length (map is_none xs))) (Some n) None) first
    ∙ ap (λ n. cond (nat_lt (position_or_len is_none xs) n) (Some (position_or_len is_none xs)) None) (length-map xs is_none)

-- the rows after entry u of row t is replaced
pub rows_set : (slots : List (List (Option ℕ))) (t u : ℕ) (x : Option ℕ) → map (map is_none) (with_entry slots t u x) ≡ with_vacant (map (map is_none) slots) t u (is_none x)
rows_set slots t u x =
    map-set (map is_none) slots t (set (slots_of slots t) u x)
    ∙ ap (set (map (map is_none) slots) t) (map-set is_none (slots_of slots t) u x ∙ ap (λ r. set r u (is_none x)) (sym (get_or-map (map is_none) slots t [])))

-- the set of vacant slots has a truth value for each slot
pub row_length : (slots : List (List (Option ℕ))) (t : ℕ) → length (vacant_of (map (map is_none) slots) t) ≡ length (slots_of slots t)
row_length slots t = ap length (get_or-map (map is_none) slots t []) ∙ length-map (slots_of slots t) is_none

-- the least number in the set of a tenant's vacant slots is the least slot that the tenant does not hold
pub least_vacant_is : (slots : List (List (Option ℕ))) (t : ℕ) → position (λ b. b) (vacant_of (map (map is_none) slots) t) ≡ position is_none (slots_of slots t)
least_vacant_is slots t = ap (position (λ b. b)) (get_or-map (map is_none) slots t []) ∙ least_none (slots_of slots t)

-- at first all superblocks and all slots are in the sets
pub blank_vacancy : (superblocks tenants : ℕ) (unowned : List Bool) (vacant : List (List Bool)) → unowned ≡ replicate superblocks true
    → vacant ≡ replicate tenants (replicate superblocks true) → IsVacancy (replicate superblocks None) (replicate tenants (replicate superblocks None)) unowned vacant
blank_vacancy superblocks tenants unowned vacant none all = record {
  superblocks = none ∙ sym (map_replicate is_none superblocks None);
  rows = all ∙ sym (map_replicate (map is_none) tenants (replicate superblocks None) ∙ ap (replicate tenants) (map_replicate is_none superblocks None));
}

module _ (owners : List (Option Owner)) (slots : List (List (Option ℕ))) (unowned : List Bool) (vacant : List (List Bool)) (v : IsVacancy owners slots unowned vacant)
    (t u : ℕ) (unowned' : List Bool) (vacant' : List (List Bool)) where
  pub granted_vacancy : (m : ℕ) (o : Owner) → unowned' ≡ set unowned m false → vacant' ≡ with_vacant vacant t u false
      → IsVacancy (set owners m (Some o)) (with_entry slots t u (Some m)) unowned' vacant'
  granted_vacancy m o superblocks rows = record {
    superblocks = superblocks ∙ ap (λ (f : List Bool). set f m false) v.superblocks ∙ sym (map-set is_none owners m (Some o));
    rows = rows ∙ ap (λ (r : List (List Bool)). with_vacant r t u false) v.rows ∙ sym (rows_set slots t u (Some m));
  }

  pub taken_vacancy : (m : ℕ) → unowned' ≡ set unowned m true → vacant' ≡ with_vacant vacant t u true
      → IsVacancy (set owners m None) (with_entry slots t u None) unowned' vacant'
  taken_vacancy m superblocks rows = record {
    superblocks = superblocks ∙ ap (λ (f : List Bool). set f m true) v.superblocks ∙ sym (map-set is_none owners m None);
    rows = rows ∙ ap (λ (r : List (List Bool)). with_vacant r t u true) v.rows ∙ sym (rows_set slots t u None);
  }

  -- the slot stays held, so its entry in the set of vacant slots stays false
  held_still : (from to : ℕ) → superblock_at slots t u ≡ Some from → map (map is_none) (with_entry slots t u (Some to)) ≡ map (map is_none) slots
  held_still from to under =
      let rows = map (map is_none) slots in
      let row : get_or rows t [] ≡ map is_none (slots_of slots t) = get_or-map (map is_none) slots t [] in
      let false_there : get_or (get_or rows t []) u true ≡ false = ap (λ (r : List Bool). get_or r u true) row ∙ get_or-map is_none (slots_of slots t) u None ∙ ap is_none under in
      rows_set slots t u (Some to)
      ∙ ap (set rows t) (ap (set (get_or rows t []) u) (sym false_there) ∙ set-get_or (get_or rows t []) u true)
      ∙ set-get_or rows t []

  pub moved_vacancy : (from to : ℕ) (o : Owner) → superblock_at slots t u ≡ Some from → unowned' ≡ set (set unowned from true) to false → vacant' ≡ vacant
      → IsVacancy (set (set owners from None) to (Some o)) (with_entry slots t u (Some to)) unowned' vacant'
  moved_vacancy from to o under superblocks rows = record {
    superblocks =
        superblocks ∙ ap (λ (f : List Bool). set (set f from true) to false) v.superblocks
        ∙ sym (map-set is_none (set owners from None) to (Some o) ∙ ap (λ (f : List Bool). set f to false) (map-set is_none owners from None));
    rows = rows ∙ v.rows ∙ sym (held_still from to under);
  }

  -- the calls for superblock m and slot u stay within the sets
  pub superblock_in_set : (m : ℕ) → m < length owners → m < length unowned
  superblock_in_set m lt = omega (arith, ap length v.superblocks, length-map owners is_none)

  pub tenant_in_set : t < length slots → t < length vacant
  tenant_in_set lt = omega (arith, ap length v.rows, length-map slots (map is_none))

  pub slot_in_set : u < length (slots_of slots t) → u < length (vacant_of vacant t)
  slot_in_set lt = omega (arith, ap (λ (r : List (List Bool)). length (vacant_of r t)) v.rows, row_length slots t)
