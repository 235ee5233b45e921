-- In a list that is linked by key, the `previous` link of a node is the node with the next lower key, or None if there is none.
use Rattle.std.proofs.Common.{◌≡◌, ℕ, ◌+◌, ◌-◌, ◌^◌, ◌<◌, ◌≤◌, List, Option, Some, None, sym, subst, arith}
use Rattle.std.specs.Prelude.{IfSome}
use Rattle.klist_core.specs.Places.{IsByKey, IsPlacedByKey, place_at, NoneBelow, IsPrevious}
use Rattle.klist_core.specs.Links.{down, IsFollowing}
use Rattle.klist_core.proofs.NearestChanged.{same_list}

pub linked_by_key : (places : List (Option (ℕ × ℕ))) (i h k : ℕ) → IsPlacedByKey places i → place_at places i ≡ Some (h, k) → IsByKey h
linked_by_key places i h k w e = subst IsByKey (same_list w.here e) w.by_key

module _ (places : List (Option (ℕ × ℕ))) (keyed : (i h k : ℕ) → place_at places i ≡ Some (h, k) → k < 2 ^ 32) where
  pub none_before : (o : Option (ℕ × ℕ)) (node : ℕ) → place_at places node ≡ o → IsPlacedByKey places node → IsFollowing down (place_at places) node None → IfSome o (λ p. NoneBelow places p.0 p.1)
  none_before None node at w after = tt
  none_before (Some p) node at w after = λ i k e.
      let beyond : 2 ^ 32 - k < 2 ^ 32 - p.1 + 1 = (after p.0 p.1 (linked_by_key places node p.0 p.1 w at) at).is i k e in
      omega (arith, keyed node p.0 p.1 at, keyed i p.0 k e)

  pub is_before : (o : Option (ℕ × ℕ)) (node j key : ℕ) → place_at places node ≡ o → IsPlacedByKey places node → IsFollowing down (place_at places) node (Some j)
      → IfSome (place_at places j) (λ p. key ≡ p.1) → IfSome o (λ p. IsPrevious places p.0 p.1 key j)
  is_before None node j key at w after read = tt
  is_before (Some p) node j key at w after read =
      let n = (after p.0 p.1 (linked_by_key places node p.0 p.1 w at) at).is in
      let k : ℕ = n.0 in
      let nearest = n.1 in
      let same : key ≡ k = subst (λ (o : Option (ℕ × ℕ)). IfSome o (λ q. key ≡ q.1)) nearest.here read in
      let from : 2 ^ 32 - p.1 + 1 ≤ 2 ^ 32 - k = nearest.from in
      subst (λ m. IsPrevious places p.0 p.1 m j) (sym same) (record {
        here = nearest.here;
        below = omega (arith, keyed node p.0 p.1 at, keyed j p.0 k nearest.here);
        greatest = λ i k' e less.
            let least : 2 ^ 32 - p.1 + 1 ≤ 2 ^ 32 - k' → 2 ^ 32 - k ≤ 2 ^ 32 - k' = nearest.least i k' e in
            omega (arith, least (omega (arith, keyed node p.0 p.1 at)), keyed j p.0 k nearest.here, keyed i p.0 k' e);
      })
