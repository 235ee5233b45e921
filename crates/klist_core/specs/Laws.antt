-- The laws of ordered lists: what is true of every list, and what an insertion and a removal change.
use Rattle.std.specs.Prelude.{◌≡◌, ◌≢◌, ℕ, ◌<◌, List, Option, Some, None, length, count_by, ◌↔◌}
use Rattle.std.specs.List.{Contains}
use Rattle.model_core.specs.WellFormed.{RisesFrom}
use Rattle.klist_core.specs.Places.{Placed, ArePlaces, place_at, is_in, inserted, removed}
use Rattle.klist_core.specs.Lists.{list_of, keys_of, put_by_key, without_node}

-- the keys of each list ascend
abbrev pub ListsRise : Type 0
ListsRise = (s : Placed) (h : ℕ) → ArePlaces s → RisesFrom 0 (keys_of s.places h)

-- list h has the pair (k, i) if and only if node i is in list h under the key k ..
abbrev pub ListsHoldPlaces : Type 0
ListsHoldPlaces = (places : List (Option (ℕ × ℕ))) (h k i : ℕ) → Contains (list_of places h) (k, i) ↔ (place_at places i ≡ Some (h, k))

-- .. and list h has the key k if and only if some node is in list h under the key k
abbrev pub KeysHoldPlaces : Type 0
KeysHoldPlaces = (places : List (Option (ℕ × ℕ))) (h k : ℕ) → Contains (keys_of places h) k ↔ ((i : ℕ) × (place_at places i ≡ Some (h, k)))

-- the length of a list is the number of its nodes
abbrev pub ListsCountPlaces : Type 0
ListsCountPlaces = (places : List (Option (ℕ × ℕ))) (h : ℕ)
    → (length (list_of places h) ≡ count_by (is_in h) places) × (length (keys_of places h) ≡ count_by (is_in h) places)

-- node i of the table is in no list, and no node of list h has the key k
pub record MayInsert (s : Placed) (h i k : ℕ) : Type 0 where
  pub node : i < length s.places
  pub free : place_at s.places i ≡ None
  pub fresh : (j : ℕ) → place_at s.places j ≢ Some (h, k)

-- an insertion of node i adds the pair (k, i) to list h, in order of keys, and changes no other list
abbrev pub InsertionChangesOneList : Type 0
InsertionChangesOneList = (s : Placed) (h i k : ℕ) → ArePlaces s → MayInsert s h i k
    → (list_of (inserted s h i k).places h ≡ put_by_key (k, i) (list_of s.places h))
    × ((g : ℕ) → g ≢ h → list_of (inserted s h i k).places g ≡ list_of s.places g)

-- a removal of node i takes its pair out of list h, and changes no other list
abbrev pub RemovalChangesOneList : Type 0
RemovalChangesOneList = (s : Placed) (h i k : ℕ) → ArePlaces s → place_at s.places i ≡ Some (h, k)
    → (list_of (removed s i).places h ≡ without_node i (list_of s.places h))
    × ((g : ℕ) → g ≢ h → list_of (removed s i).places g ≡ list_of s.places g)
