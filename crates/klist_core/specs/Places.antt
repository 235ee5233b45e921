-- Ordered lists of nodes: for each node its list and its key there.
use Rattle.std.specs.Prelude.{◌≡◌, ◌≢◌, ℕ, ◌%◌, ◌==◌, ◌^◌, ◌<◌, ◌≤◌, Bool, false, List, Option, Some, None, length, slice_index_or, slice_set}

-- `heads` is the number of lists, which are numbered from 0. `places` has each node's list and key, or None if the node is in no
-- list.
pub record Placed : Type 0 where
  pub heads : ℕ
  pub places : List (Option (ℕ × ℕ))

abbrev pub place_at : List (Option (ℕ × ℕ)) → ℕ → Option (ℕ × ℕ)
place_at places i = slice_index_or places i None

-- a node with this place is in list h
abbrev pub is_in : ℕ → Option (ℕ × ℕ) → Bool
is_in h None = false
is_in h (Some p) = p.0 == h

-- Lists come in threes: lists 0, 1 and 2, then lists 3, 4 and 5, and so on. `in_three h` is the position of list h in its three,
-- from 0 to 2.
abbrev pub in_three : ℕ → ℕ
in_three h = h % 3

-- list h is loose: it is the first of its three
abbrev pub IsLoose : ℕ → Type 0
IsLoose h = in_three h ≡ 0

-- list h is linked by key: it is the second or the third of its three
abbrev pub IsByKey : ℕ → Type 0
IsByKey h = 0 < in_three h

-- node i is in a list that is linked by key
pub record IsPlacedByKey (places : List (Option (ℕ × ℕ))) (i : ℕ) : Type 0 where
  pub list : ℕ
  pub key : ℕ
  pub here : place_at places i ≡ Some (list, key)
  pub by_key : IsByKey list

-- what is true of every table: its numbers fit into 32 bits, the list of each node is a list of the table, and no two nodes of a
-- list have the same key
pub record ArePlaces (s : Placed) : Type 0 where
  pub few : s.heads < 2 ^ 32
  pub small : length s.places < 2 ^ 32
  pub headed : (i h k : ℕ) → place_at s.places i ≡ Some (h, k) → h < s.heads
  pub keyed : (i h k : ℕ) → place_at s.places i ≡ Some (h, k) → k < 2 ^ 32
  pub apart : (i j h k : ℕ) → place_at s.places i ≡ Some (h, k) → place_at s.places j ≡ Some (h, k) → i ≡ j

-- the table after node i is put into list h under the key k
abbrev pub inserted : Placed → ℕ → ℕ → ℕ → Placed
inserted s h i k = record s { places = slice_set s.places i (Some (h, k)) }

-- the table after node i is taken out of its list
abbrev pub removed : Placed → ℕ → Placed
removed s i = record s { places = slice_set s.places i None }

-- the table after node j takes the place of node i; node i is then in no list
abbrev pub replaced : Placed → ℕ → ℕ → Placed
replaced s i j = record s { places = slice_set (slice_set s.places i None) j (place_at s.places i) }

-- no node is in list h
abbrev pub IsEmpty : List (Option (ℕ × ℕ)) → ℕ → Type 0
IsEmpty places h = (i k : ℕ) → place_at places i ≢ Some (h, k)

-- node i is in list h under the key k, the least key of the list
pub record IsFirst (places : List (Option (ℕ × ℕ))) (h k i : ℕ) : Type 0 where
  pub here : place_at places i ≡ Some (h, k)
  pub least : (j k' : ℕ) → place_at places j ≡ Some (h, k') → k ≤ k'

-- list h has no key above b
abbrev pub NoneAbove : List (Option (ℕ × ℕ)) → ℕ → ℕ → Type 0
NoneAbove places h b = (i k : ℕ) → place_at places i ≡ Some (h, k) → k ≤ b

-- node i is in list h under the key k, the least key of the list above b
pub record IsNext (places : List (Option (ℕ × ℕ))) (h b k i : ℕ) : Type 0 where
  pub here : place_at places i ≡ Some (h, k)
  pub above : b < k
  pub least : (j k' : ℕ) → place_at places j ≡ Some (h, k') → b < k' → k ≤ k'

-- list h has no key below b
abbrev pub NoneBelow : List (Option (ℕ × ℕ)) → ℕ → ℕ → Type 0
NoneBelow places h b = (i k : ℕ) → place_at places i ≡ Some (h, k) → b ≤ k

-- node i is in list h under the key k, the greatest key of the list below b
pub record IsPrevious (places : List (Option (ℕ × ℕ))) (h b k i : ℕ) : Type 0 where
  pub here : place_at places i ≡ Some (h, k)
  pub below : k < b
  pub greatest : (j k' : ℕ) → place_at places j ≡ Some (h, k') → k' < b → k' ≤ k
