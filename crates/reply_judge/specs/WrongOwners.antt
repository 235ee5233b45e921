-- The superblocks whose owner in a table is wrong.
use Rattle.std.specs.Prelude.{ℕ, ◌==◌, ◌&&◌, Bool, not, List, find, length, Option, slice_get}
use Rattle.std.specs.List.{range_with_len}
use Rattle.std.specs.Option.{option_eq}
use Rattle.model_core.specs.declared.owner.Owner.{Owner}

-- the table has another owner for superblock m, or none while it has one, or one while it has none
abbrev pub is_wrong : (owners table : List (Option Owner)) → ℕ → Bool
is_wrong owners table m = not (option_eq (λ a b. option_eq (λ x y. x.tenant == y.tenant && x.slot == y.slot) a b) (slice_get table m) (slice_get owners m))

-- the first superblock whose owner in the table is wrong
abbrev pub wrong_owner : (owners table : List (Option Owner)) → Option ℕ
wrong_owner owners table = find (is_wrong owners table) (range_with_len 0 (length owners))
