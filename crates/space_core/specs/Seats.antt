-- Which slot of each tenant uses each superblock.
use Rattle.std.specs.Prelude.{◌≡◌, ℕ, ◌<◌, ◌==◌, if◌then◌else◌, List, [], Option, Some, None, length, map, slice_index_or, slice_set}
use Rattle.model_core.specs.declared.owner.Owner.{Owner}
use Rattle.space_core.specs.declared.seats.TheConstants.{NO_SLOT}

-- the seat for tenant t of a superblock with this owner: the slot that uses the superblock if the owner is tenant t
abbrev pub seat_for : ℕ → Option Owner → ℕ
seat_for t None = NO_SLOT
seat_for t (Some owner) = if owner.tenant == t then owner.slot else NO_SLOT

-- the seats of tenant t, one for each superblock
abbrev pub seats_of : List (List ℕ) → ℕ → List ℕ
seats_of seats t = slice_index_or seats t []

-- the seats, with the seat of superblock m for tenant t replaced
abbrev pub with_seat : List (List ℕ) → ℕ → ℕ → ℕ → List (List ℕ)
with_seat seats t m seat = slice_set seats t (slice_set (seats_of seats t) m seat)

-- each of the tenants has a row of seats, which agrees with the owners
pub record AreSeats (owners : List (Option Owner)) (tenants : ℕ) (seats : List (List ℕ)) : Type 0 where
  pub count : length seats ≡ tenants
  pub rows : (t : ℕ) → t < tenants → seats_of seats t ≡ map (seat_for t) owners
