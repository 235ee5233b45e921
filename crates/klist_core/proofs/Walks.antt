-- A walk along a list, in one direction, to the first node whose rank is at least a bound.
use Rattle.std.proofs.Common.{◌≡◌, ℕ, ◌+◌, ◌-◌, ◌^◌, ◌<◌, ◌≤◌, Option, Some, None, IsSome, IfSome, is_some, ap, arith}
use Rattle.std.specs.Prelude.{MatchOption}
use Rattle.klist_core.specs.Links.{NoneFrom, IsLeastFrom, IsNearest}

-- node j is in list h under the key k, and no node of list h with a rank of at least `bound` has a lower rank than j
pub record IsNotPast (rank : ℕ → ℕ) (place : ℕ → Option (ℕ × ℕ)) (h bound j k : ℕ) : Type 0 where
  pub here : place j ≡ Some (h, k)
  pub least : (i k' : ℕ) → place i ≡ Some (h, k') → bound ≤ rank k' → rank k ≤ rank k'

-- the walk has come to node o, which is not past the first node with a rank of at least `bound`, or o is None and there is no
-- such node
pub record IsOnWay (rank : ℕ → ℕ) (place : ℕ → Option (ℕ × ℕ)) (h bound : ℕ) (o : Option ℕ) : Type 0 where
  pub is : MatchOption o (NoneFrom rank place h bound) (λ j. (k : ℕ) × IsNotPast rank place h bound j k)

abbrev pub key_in : Option (ℕ × ℕ) → ℕ
key_in None = 0
key_in (Some p) = p.1

-- an upper limit for the number of steps that the walk still takes
abbrev pub way_left : (ℕ → ℕ) → (ℕ → Option (ℕ × ℕ)) → Option ℕ → ℕ
way_left rank place None = 0
way_left rank place (Some j) = 2 ^ 32 + 1 - rank (key_in (place j))

module _ (rank : ℕ → ℕ) (place : ℕ → Option (ℕ × ℕ)) (h bound : ℕ) where
  pub way_placed : (j : ℕ) → IsOnWay rank place h bound (Some j) → IsSome (place j)
  way_placed j v = let p : IsNotPast rank place h bound j v.is.0 = v.is.1 in ap is_some p.here

  -- if the walk has come to node j, whose key was read as k, node j is not past the first node with a rank of at least `bound`
  pub way_read : (o : Option ℕ) (j k : ℕ) → o ≡ Some j → IsOnWay rank place h bound o → IfSome (place j) (λ p. k ≡ p.1) → IsNotPast rank place h bound j k
  way_read o j k at v read =
      let w = rw at at v in
      let p : IsNotPast rank place h bound j w.is.0 = w.is.1 in
      let key : k ≡ w.is.0 = rw p.here at read in
      rw key p

  pub way_gone_on : (j k : ℕ) (o : Option ℕ) → rank k < bound → IsNearest rank place h (rank k + 1) o → IsOnWay rank place h bound o
  way_gone_on j k None lt v = record { is = λ i k' e. let u = v.is i k' e in omega arith }
  way_gone_on j k (Some i) lt v = let l : IsLeastFrom rank place h (rank k + 1) i v.is.0 = v.is.1 in record { is = (v.is.0, record { here = l.here; least = λ x k' e le. l.least x k' e (omega arith) }) }

  pub way_ended : (j k : ℕ) → IsNotPast rank place h bound j k → bound ≤ rank k → IsNearest rank place h bound (Some j)
  way_ended j k p le = record { is = (k, record { here = p.here; from = le; least = p.least }) }

  pub way_exhausted : IsOnWay rank place h bound None → IsNearest rank place h bound None
  way_exhausted v = record { is = v.is }

  pub way_shortened : (j k : ℕ) (o : Option ℕ) → IsNotPast rank place h bound j k → rank k ≤ 2 ^ 32 → IsNearest rank place h (rank k + 1) o → way_left rank place o < way_left rank place (Some j)
  way_shortened j k None p le n = rw p.here (omega arith)
  way_shortened j k (Some i) p le n =
      let l : IsLeastFrom rank place h (rank k + 1) i n.is.0 = n.is.1 in
      rw (p.here, l.here) (omega (arith, l.from))
