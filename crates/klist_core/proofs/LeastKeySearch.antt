-- A search over all nodes of a table finds the node with the least key of a list.
use Rattle.std.proofs.Common.{◌≡◌, ℕ, ◌+◌, ◌^◌, ◌<◌, ◌≤◌, Option, Some, None, sym, ap, ◌∙◌, inl, inr, arith}
use Rattle.std.specs.Prelude.{MatchOption}
use Rattle.std.proofs.lemmas.Bool.{cases_eq}
use Rattle.klist_core.specs.Links.{up, IsNearest}
use Rattle.klist_core.proofs.NearestChanged.{same_key}

-- Of the nodes 0 to n - 1, o is the one with the least key in list h, and `bound` is this key. If none of these nodes is in list
-- h, o is None and `bound` is 2 ^ 32.
pub record IsLeastUntil (place : ℕ → Option (ℕ × ℕ)) (h n bound : ℕ) (o : Option ℕ) : Type 0 where
  pub found : MatchOption o (bound ≡ 2 ^ 32) (λ j. place j ≡ Some (h, bound))
  pub least : (i k : ℕ) → i < n → place i ≡ Some (h, k) → bound ≤ k

module _ (place : ℕ → Option (ℕ × ℕ)) (h : ℕ) where
  pub until_none : IsLeastUntil place h 0 (2 ^ 32) None
  until_none = record { found = omega arith; least = λ i k lt e. omega arith }

  pub until_here : (n b k : ℕ) (o : Option ℕ) → IsLeastUntil place h n b o → place n ≡ Some (h, k) → k < b → IsLeastUntil place h (n + 1) k (Some n)
  until_here n b k o v here lt = record {
    found = here;
    least = λ i k' below e. elim (cases_eq i n) [
      | inl is ↦ omega (arith, same_key here (ap place (sym is) ∙ e))
      | inr ne ↦ let u = v.least i k' (omega arith) e in omega arith
    ];
  }

  pub until_kept : (n b : ℕ) (o : Option ℕ) → IsLeastUntil place h n b o → ((k : ℕ) → place n ≡ Some (h, k) → b ≤ k) → IsLeastUntil place h (n + 1) b o
  until_kept n b o v f = record {
    found = v.found;
    least = λ i k' below e. elim (cases_eq i n) [
      | inl is ↦ f k' (ap place (sym is) ∙ e)
      | inr ne ↦ v.least i k' (omega arith) e
    ];
  }

  pub until_all : (n b : ℕ) (o : Option ℕ) → IsLeastUntil place h n b o → ((i k : ℕ) → place i ≡ Some (h, k) → (i < n) × (k < 2 ^ 32)) → IsNearest up place h 0 o
  until_all n b None v all = record { is = λ i k e. let w = all i k e in let u = v.least i k w.0 e in absurd (omega (arith, v.found, w.1)) }
  until_all n b (Some j) v all = record { is = (b, record { here = v.found; from = omega arith; least = λ i k e le. v.least i k (all i k e).0 e }) }
