-- The ends and links of a table give the nearest nodes of a list that is linked by key, and some node of any list.
use Rattle.std.proofs.Common.{◌≡◌, ℕ, ◌^◌, ◌<◌, true, List, Option, Some, None, length, refl, ap, ◌∙◌, arith}
use Rattle.std.specs.Prelude.{MatchOption}
use Rattle.std.proofs.lemmas.Bool.{eq-eqb}
use Rattle.klist_core.specs.Places.{IsByKey, IsEmpty, place_at, is_in}
use Rattle.klist_core.specs.Links.{up, down, back_from, ranks, IsLeastFrom, IsNearest, IsFollowing, IsLinked, head_at, node_at, places_of}
use Rattle.klist_core.specs.declared.Head.{Head}
use Rattle.klist_core.specs.declared.Node.{Node}
use Rattle.klist_core.proofs.Ranks.{unranked, ranked_there, ranked_by_key, nearest_by_key, start_limit, next_limit}

-- the first node of a list in the order of links is in the list; if there is no first node, the list is empty
some_ranked : (came : ℕ → ℕ) (places : List (Option (ℕ × ℕ))) (h : ℕ) (o : Option ℕ) → IsNearest up (ranks came places) h 0 o → MatchOption o (IsEmpty places h) (λ n. is_in h (place_at places n) ≡ true)
some_ranked came places h None v = λ i k e. let u = v.is i _ (ranked_there (came i) h k (place_at places i) e) in omega (arith, u)
some_ranked came places h (Some j) v =
    let l : IsLeastFrom up (ranks came places) h 0 j v.is.0 = v.is.1 in
    let w = unranked (came j) h v.is.0 (place_at places j) l.here in
    ap (is_in h) w.1 ∙ eq-eqb h h refl

module _ (heads : List Head) (nodes : List Node) (t : IsLinked heads nodes) where
  -- each key is below `now` and below 2 ^ 32
  keyed : (i h k : ℕ) → place_at (places_of nodes) i ≡ Some (h, k) → (k < t.now) × (k < 2 ^ 32)
  keyed i h k e = let u = t.table.keyed i h k e in (omega (arith, u, t.wide), u)

  pub some_linked : (h : ℕ) → h < length heads → MatchOption (head_at heads h).first (IsEmpty (places_of nodes) h) (λ n. is_in h (place_at (places_of nodes) n) ≡ true)
  some_linked h lt = some_ranked t.came (places_of nodes) h _ (t.upwards.begins h lt)

  pub first_linked : (h : ℕ) → h < length heads → IsByKey h → IsNearest up (place_at (places_of nodes)) h 0 (head_at heads h).first
  first_linked h lt by_key = nearest_by_key up t.came (places_of nodes) h 0 _ by_key (t.upwards.begins h lt)

  pub last_linked : (h : ℕ) → h < length heads → IsByKey h → IsNearest down (place_at (places_of nodes)) h 0 (head_at heads h).last
  last_linked h lt by_key =
      start_limit t.now (2 ^ 32) (place_at (places_of nodes)) h _ (λ i k. keyed i h k) (nearest_by_key (back_from t.now) t.came (places_of nodes) h 0 _ by_key (t.downwards.begins h lt))

  pub next_linked : (i : ℕ) → IsFollowing up (place_at (places_of nodes)) i (node_at nodes i).next
  next_linked i h k by_key e =
      nearest_by_key up t.came (places_of nodes) h _ _ by_key (t.upwards.goes_on i h k (ranked_by_key (t.came i) h k (place_at (places_of nodes) i) by_key e))

  pub previous_linked : (i : ℕ) → IsFollowing down (place_at (places_of nodes)) i (node_at nodes i).previous
  previous_linked i h k by_key e =
      let w = keyed i h k e in
      next_limit t.now (2 ^ 32) (place_at (places_of nodes)) h k _ w.0 w.1 (λ j r. keyed j h r)
      (nearest_by_key (back_from t.now) t.came (places_of nodes) h _ _ by_key (t.downwards.goes_on i h k (ranked_by_key (t.came i) h k (place_at (places_of nodes) i) by_key e)))
