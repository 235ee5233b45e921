-- A walk up a list to the gap in which a new key belongs. The walk also returns the node before the gap.
use Rattle.std.proofs.Common.{◌≡◌, ℕ, ◌+◌, ◌-◌, ◌^◌, ◌<◌, ◌≤◌, true, Option, Some, None, IsSome, is_some, ap, ◌∙◌, inl, inr, arith}
use Rattle.std.specs.Prelude.{◌≢◌, IfSome}
use Rattle.std.proofs.lemmas.Bool.{cases_lt, cases_eq, eqb-true, false≢true}
use Rattle.klist_core.specs.Places.{IsByKey, is_in}
use Rattle.klist_core.specs.Links.{IsLeastFrom, IsNearest, IsFollowing, up, down}
use Rattle.klist_core.proofs.Directions.{IsKeyed}
use Rattle.klist_core.proofs.NearestChanged.{same_key}
use Rattle.klist_core.proofs.Walks.{key_in}

-- a node that is in list h is in list h under some key
pub in_placed : (h : ℕ) (o : Option (ℕ × ℕ)) → is_in h o ≡ true → (k : ℕ) × (o ≡ Some (h, k))
in_placed h None e = absurd (false≢true e)
in_placed h (Some (g, k)) e = (k, ap (λ (x : ℕ). Some (x, k)) (eqb-true g h e))

-- node i is in list h under a key below `key`, and o is the node after i
pub record IsBehind (place : ℕ → Option (ℕ × ℕ)) (h key i : ℕ) (o : Option ℕ) : Type 0 where
  pub own : ℕ
  pub here : place i ≡ Some (h, own)
  pub below : own < key
  pub after : IsNearest up place h (up own + 1) o

module _ (place : ℕ → Option (ℕ × ℕ)) (h key : ℕ) where
  -- if the key of node i is below `key` and no node is after node i, no node of list h has a key above `key` ..
  pub behind_last : (i : ℕ) → IsBehind place h key i None → IsNearest up place h (up key + 1) None
  behind_last i v = record { is = λ j k e. let u = v.after.is j k e in omega (arith, v.below) }

  -- .. and if the node after i has a key above `key`, it is the first node of list h with a key above `key`
  pub behind_next : (i j r : ℕ) → IsBehind place h key i (Some j) → IfSome (place j) (λ p. r ≡ p.1) → key < r → IsNearest up place h (up key + 1) (Some j)
  behind_next i j r v read lt =
      let l : IsLeastFrom up place h (up v.own + 1) j v.after.is.0 = v.after.is.1 in
      let is : r ≡ v.after.is.0 = rw l.here at read in
      record { is = (v.after.is.0, record { here = l.here; from = omega (arith, is); least = λ x k e le. l.least x k e (omega (arith, v.below)) }) }

  -- if the node after i is the first node with a key above `key`, node i is the last node with a key below `key`
  pub behind_previous : (i : ℕ) (o : Option ℕ) → IsKeyed (2 ^ 32) place h → key < 2 ^ 32 → IsBehind place h key i o → IsNearest up place h (up key + 1) o
      → IsNearest down place h (down key + 1) (Some i)
  behind_previous i o keyed fits v n = record { is = (v.own, record { here = v.here; from = omega (arith, v.below); least = λ x k e le. least o v.after n x k e le }) }
    where
      least : (o : Option ℕ) → IsNearest up place h (up v.own + 1) o → IsNearest up place h (up key + 1) o
          → (x k : ℕ) → place x ≡ Some (h, k) → down key + 1 ≤ down k → down v.own ≤ down k
      least None after n x k e le = let u = after.is x k e in omega (arith, u)
      least (Some j) after n x k e le = elim (cases_lt v.own k) [
        | inl lt ↦
            let a : IsLeastFrom up place h (up v.own + 1) j after.is.0 = after.is.1 in
            let b : IsLeastFrom up place h (up key + 1) j n.is.0 = n.is.1 in
            let u = a.least x k e (omega arith) in
            absurd (omega (arith, u, b.from, same_key a.here b.here, keyed.below x k e))
        | inr ge ↦ omega arith
      ]

  -- if the node after i has a key that is not above `key`, the walk goes on to this node ..
  pub behind_on : (i j r : ℕ) (o' : Option ℕ) → ((x : ℕ) → place x ≢ Some (h, key)) → IsBehind place h key i (Some j) → IfSome (place j) (λ p. r ≡ p.1) → r ≤ key
      → IsByKey h → IsFollowing up place j o' → IsBehind place h key j o'
  behind_on i j r o' fresh v read le by_key w =
      let l : IsLeastFrom up place h (up v.own + 1) j v.after.is.0 = v.after.is.1 in
      let is : r ≡ v.after.is.0 = rw l.here at read in
      elim (cases_eq v.after.is.0 key) [
        | inl e ↦ absurd (fresh j (l.here ∙ ap (λ (x : ℕ). Some (h, x)) e))
        | inr ne ↦ record { own = v.after.is.0; here = l.here; below = omega (arith, is); after = w h v.after.is.0 by_key l.here }
      ]

  pub behind_placed : (i j : ℕ) → IsBehind place h key i (Some j) → IsSome (place j)
  behind_placed i j v = let l : IsLeastFrom up place h (up v.own + 1) j v.after.is.0 = v.after.is.1 in ap is_some l.here

  -- .. and the walk is then nearer to `key`
  pub behind_nearer : (i j r : ℕ) → IsBehind place h key i (Some j) → IfSome (place j) (λ p. r ≡ p.1) → r ≤ key → key < 2 ^ 32
      → 2 ^ 32 - key_in (place j) < 2 ^ 32 - key_in (place i)
  behind_nearer i j r v read le fits =
      let l : IsLeastFrom up place h (up v.own + 1) j v.after.is.0 = v.after.is.1 in
      let is : r ≡ v.after.is.0 = rw l.here at read in
      rw (v.here, l.here) (omega (arith, is, l.from))
