-- Which superblocks have no owner, and which slots each tenant does not hold.
use Rattle.std.specs.Prelude.{◌≡◌, ℕ, Bool, List, [], Option, is_none, map, slice_index_or, slice_set}
use Rattle.model_core.specs.declared.owner.Owner.{Owner}

-- for each slot of a tenant, whether the tenant does not hold it
abbrev pub vacant_of : List (List Bool) → ℕ → List Bool
vacant_of vacant t = slice_index_or vacant t []

-- slot u of tenant t becomes vacant, or is held
abbrev pub with_vacant : List (List Bool) → ℕ → ℕ → Bool → List (List Bool)
with_vacant vacant t u is_vacant = slice_set vacant t (slice_set (vacant_of vacant t) u is_vacant)

-- `unowned` has the superblocks without an owner, and `vacant` has the slots that are not held
pub record IsVacancy (owners : List (Option Owner)) (slots : List (List (Option ℕ))) (unowned : List Bool) (vacant : List (List Bool)) : Type 0 where
  pub superblocks : unowned ≡ map is_none owners
  pub rows : vacant ≡ map (map is_none) slots
