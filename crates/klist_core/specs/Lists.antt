-- The lists themselves: the pairs of key and node of a list, in ascending order of keys.
use Rattle.std.specs.Prelude.{ℕ, ◌+◌, ◌==◌, List, [], ◌∷◌, Option, Some, None, map, filter, not, nat_lt, if◌then◌else◌}

-- the pairs with p inserted before the first pair that has a greater key, or at the end
abbrev pub put_by_key : ℕ × ℕ → List (ℕ × ℕ) → List (ℕ × ℕ)
put_by_key p [] = p ∷ []
put_by_key p (q ∷ qs) = if nat_lt p.0 q.0 then p ∷ (q ∷ qs) else q ∷ put_by_key p qs

-- the pairs, with the pair of node i added if the node is in list h
abbrev pub with_node : ℕ → ℕ → Option (ℕ × ℕ) → List (ℕ × ℕ) → List (ℕ × ℕ)
with_node h i None qs = qs
with_node h i (Some p) qs = if p.0 == h then put_by_key (p.1, i) qs else qs

-- the pairs of list h that belong to the nodes from i on; the last argument has the places of these nodes
abbrev pub list_from : ℕ → ℕ → List (Option (ℕ × ℕ)) → List (ℕ × ℕ)
list_from h i [] = []
list_from h i (place ∷ places) = with_node h i place (list_from h (i + 1) places)

-- list h as its pairs of key and node
abbrev pub list_of : List (Option (ℕ × ℕ)) → ℕ → List (ℕ × ℕ)
list_of places h = list_from h 0 places

-- the keys of list h
abbrev pub keys_of : List (Option (ℕ × ℕ)) → ℕ → List ℕ
keys_of places h = map (λ p. p.0) (list_of places h)

-- the pairs without the pair of node i
abbrev pub without_node : ℕ → List (ℕ × ℕ) → List (ℕ × ℕ)
without_node i qs = filter (λ p. not (p.1 == i)) qs
