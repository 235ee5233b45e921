-- What the links of a table mean. A list can be followed in two directions, up and down the keys. The definitions are the same
-- for both directions.
use Rattle.std.specs.Prelude.{◌≡◌, ◌≢◌, ℕ, ◌+◌, ◌-◌, ◌^◌, ◌<◌, ◌≤◌, ◌==◌, if◌then◌else◌, Option, Some, None, List, length, map, slice_index_or, count_by, MatchOption}
use Rattle.klist_core.specs.Places.{Placed, ArePlaces, IsByKey, in_three, place_at, is_in}
use Rattle.klist_core.specs.Raw.{raw_place}
use Rattle.klist_core.specs.declared.Head.{Head}
use Rattle.klist_core.specs.declared.Node.{Node}

-- a direction is given by the ranks of keys, which rise in this direction: for the way up, a key is its own rank ..
abbrev pub up : ℕ → ℕ
up key = key

-- .. and for the opposite direction, the rank is a limit minus the rank for the way up; the rank for the way up is below this
-- limit
abbrev pub back_from : ℕ → ℕ → ℕ
back_from limit r = limit - r

abbrev pub down : ℕ → ℕ
down = back_from (2 ^ 32)

-- no node of list h has a rank of `bound` or more
abbrev pub NoneFrom : (ℕ → ℕ) → (ℕ → Option (ℕ × ℕ)) → ℕ → ℕ → Type 0
NoneFrom rank place h bound = (i k : ℕ) → place i ≡ Some (h, k) → rank k < bound

-- node j is in list h under the key k, and its rank is the least rank in list h that is not below `bound`
pub record IsLeastFrom (rank : ℕ → ℕ) (place : ℕ → Option (ℕ × ℕ)) (h bound j k : ℕ) : Type 0 where
  pub here : place j ≡ Some (h, k)
  pub from : bound ≤ rank k
  pub least : (i k' : ℕ) → place i ≡ Some (h, k') → bound ≤ rank k' → rank k ≤ rank k'

-- o is the first node of list h, in this direction, with a rank that is not below `bound`, or None if there is none
pub record IsNearest (rank : ℕ → ℕ) (place : ℕ → Option (ℕ × ℕ)) (h bound : ℕ) (o : Option ℕ) : Type 0 where
  pub is : MatchOption o (NoneFrom rank place h bound) (λ j. (k : ℕ) × IsLeastFrom rank place h bound j k)

-- list h is linked by key; g has the last node of list h with a key below `key` and the first node with a key above `key`, each
-- None if there is none
pub record IsGap (place : ℕ → Option (ℕ × ℕ)) (h key : ℕ) (g : Option ℕ × Option ℕ) : Type 0 where
  pub by_key : IsByKey h
  pub previous : IsNearest down place h (down key + 1) g.0
  pub next : IsNearest up place h (up key + 1) g.1

-- o is the node after node i in this direction, or None if node i is the last of its list
abbrev pub IsAfter : (ℕ → ℕ) → (ℕ → Option (ℕ × ℕ)) → ℕ → Option ℕ → Type 0
IsAfter rank place i o = (h k : ℕ) → place i ≡ Some (h, k) → IsNearest rank place h (rank k + 1) o

-- if the list of node i is linked by key, o is the node after node i in this direction, or None if node i is the last
abbrev pub IsFollowing : (ℕ → ℕ) → (ℕ → Option (ℕ × ℕ)) → ℕ → Option ℕ → Type 0
IsFollowing rank place i o = (h k : ℕ) → IsByKey h → place i ≡ Some (h, k) → IsNearest rank place h (rank k + 1) o

-- o is a node of list h, or None if the list is empty
pub record IsStart (place : ℕ → Option (ℕ × ℕ)) (h : ℕ) (o : Option ℕ) : Type 0 where
  pub is : MatchOption o ((i k : ℕ) → place i ≢ Some (h, k)) (λ j. (k : ℕ) × (place j ≡ Some (h, k)))

-- in this direction, `ends` gives the first node of each list, and `links` the node after each node
pub record IsChain (rank : ℕ → ℕ) (place : ℕ → Option (ℕ × ℕ)) (heads : ℕ) (ends links : ℕ → Option ℕ) : Type 0 where
  pub begins : (h : ℕ) → h < heads → IsNearest rank place h 0 (ends h)
  pub goes_on : (i : ℕ) → IsAfter rank place i (links i)

abbrev pub head_at : List Head → ℕ → Head
head_at heads h = slice_index_or heads h (record { first = None; last = None; len = 0 })

-- a node that is in no list
abbrev pub free_node : Node
free_node = record { list = None; key = 0; previous = None; next = None }

abbrev pub node_at : List Node → ℕ → Node
node_at nodes i = slice_index_or nodes i free_node

-- the list and the key of the node, or None if the node is in no list
abbrev pub place_in : Node → Option (ℕ × ℕ)
place_in n = raw_place n.list n.key

abbrev pub places_of : List Node → List (Option (ℕ × ℕ))
places_of nodes = map place_in nodes

-- what contracts see of a table: the number of lists, and the list and key of each node
abbrev pub shown : List Head → List Node → Placed
shown heads nodes = record { heads = length heads; places = places_of nodes }

-- the list and rank of a node with this place: a loose list ranks its nodes by a time, any other list by key
abbrev pub ranked : ℕ → Option (ℕ × ℕ) → Option (ℕ × ℕ)
ranked time None = None
ranked time (Some p) = Some (p.0, if in_three p.0 == 0 then time else p.1)

-- the list and rank of node i of a table; `came` gives the time of each node: when it was inserted, or if it replaced another
-- node, the time of that node
abbrev pub ranks : (ℕ → ℕ) → List (Option (ℕ × ℕ)) → ℕ → Option (ℕ × ℕ)
ranks came places i = ranked (came i) (place_at places i)

-- the links and lengths that are stored in a table agree with its lists
pub record IsLinked (heads : List Head) (nodes : List Node) : Type 0 where
  pub table : ArePlaces (shown heads nodes)
  -- `came` is the time, before `now`, at which each node was inserted. These times are stored nowhere, so any numbers are allowed
  -- that agree with the links of the loose lists.
  pub came : ℕ → ℕ
  pub now : ℕ
  pub wide : 2 ^ 32 ≤ now
  pub before : (i : ℕ) → came i < now
  pub apart : (i j h r : ℕ) → ranks came (places_of nodes) i ≡ Some (h, r) → ranks came (places_of nodes) j ≡ Some (h, r) → i ≡ j
  pub upwards : IsChain up (ranks came (places_of nodes)) (length heads) (λ h. (head_at heads h).first) (λ i. (node_at nodes i).next)
  pub downwards : IsChain (back_from now) (ranks came (places_of nodes)) (length heads) (λ h. (head_at heads h).last) (λ i. (node_at nodes i).previous)
  pub counted : (h : ℕ) → h < length heads → (head_at heads h).len ≡ count_by (is_in h) (places_of nodes)
