-- The nearest nodes in one direction after a node is added to a list or removed from it.
use Rattle.std.proofs.Common.{◌≡◌, ℕ, ◌+◌, ◌<◌, ◌≤◌, Option, Some, None, ap, sym, ◌∙◌, ◌⊎◌, inl, inr, arith}
use Rattle.std.specs.Prelude.{◌≢◌}
use Rattle.std.proofs.lemmas.Bool.{cases_lt, cases_eq}
use Rattle.klist_core.specs.Links.{IsLeastFrom, IsNearest}

-- `large` is `small` with node n added to list h, under a key k that list h of `small` does not have
pub record IsPut (small large : ℕ → Option (ℕ × ℕ)) (h n k : ℕ) : Type 0 where
  pub free : small n ≡ None
  pub here : large n ≡ Some (h, k)
  pub others : (i : ℕ) → i ≢ n → large i ≡ small i
  pub fresh : (i : ℕ) → small i ≢ Some (h, k)

-- a node of list h with a rank of at least b and below r
pub record IsBetween (rank : ℕ → ℕ) (place : ℕ → Option (ℕ × ℕ)) (h b r : ℕ) : Type 0 where
  pub node : ℕ
  pub key : ℕ
  pub here : place node ≡ Some (h, key)
  pub from : b ≤ rank key
  pub below : rank key < r

pub same_list : {g k h k' : ℕ} {o : Option (ℕ × ℕ)} → o ≡ Some (g, k) → o ≡ Some (h, k') → g ≡ h
same_list {g} {k} {h} {k'} a b = let e : ◌≡◌ {A = ℕ × ℕ} (g, k) (h, k') = cc in ap (λ (p : ℕ × ℕ). p.0) e

pub same_key : {g k h k' : ℕ} {o : Option (ℕ × ℕ)} → o ≡ Some (g, k) → o ≡ Some (h, k') → k ≡ k'
same_key {g} {k} {h} {k'} a b = let e : ◌≡◌ {A = ℕ × ℕ} (g, k) (h, k') = cc in ap (λ (p : ℕ × ℕ). p.1) e

pub raised : {small large : ℕ → Option (ℕ × ℕ)} {h n k : ℕ} → IsPut small large h n k → (i : ℕ) (q : ℕ × ℕ) → small i ≡ Some q → large i ≡ Some q
raised {small} {large} {h} {n} {k} p i q e = elim (cases_eq i n) [
  | inl is ↦ let f = p.free in let g : small i ≡ small n = ap small is in cc
  | inr ne ↦ p.others i ne ∙ e
]

pub lowered : {small large : ℕ → Option (ℕ × ℕ)} {h n k : ℕ} → IsPut small large h n k → (i g k' : ℕ) → large i ≡ Some (g, k')
    → (small i ≡ Some (g, k')) ⊎ ((i ≡ n) × (g ≡ h) × (k' ≡ k))
lowered {small} {large} {h} {n} {k} p i g k' e = elim (cases_eq i n) [
  | inl is ↦ let there : large i ≡ Some (h, k) = ap large is ∙ p.here in inr (is, same_list e there, same_key e there)
  | inr ne ↦ inl (sym (p.others i ne) ∙ e)
]

pub nearest_same : (rank : ℕ → ℕ) (old new : ℕ → Option (ℕ × ℕ)) (g b : ℕ) (o : Option ℕ)
    → ((i k : ℕ) → old i ≡ Some (g, k) → new i ≡ Some (g, k)) → ((i k : ℕ) → new i ≡ Some (g, k) → old i ≡ Some (g, k))
    → IsNearest rank old g b o → IsNearest rank new g b o
nearest_same rank old new g b None to back v = record { is = λ i k e. v.is i k (back i k e) }
nearest_same rank old new g b (Some j) to back v =
    let l : IsLeastFrom rank old g b j v.is.0 = v.is.1 in
    record { is = (v.is.0, record { here = to j v.is.0 l.here; from = l.from; least = λ i k e le. l.least i k (back i k e) le }) }

module _ (rank : ℕ → ℕ) (small large : ℕ → Option (ℕ × ℕ)) (h n k : ℕ) (p : IsPut small large h n k) where
  -- every list but h has the same nodes and the same nearest nodes in `small` and `large`
  pub others_lowered : (g i k' : ℕ) → g ≢ h → large i ≡ Some (g, k') → small i ≡ Some (g, k')
  others_lowered g i k' ne e = elim (lowered p i g k' e) [ inl s ↦ s | inr w ↦ absurd (ne w.1) ]

  pub others_kept_large : (g b : ℕ) (o : Option ℕ) → g ≢ h → IsNearest rank small g b o → IsNearest rank large g b o
  others_kept_large g b o ne v = nearest_same rank small large g b o (λ i k' e. raised p i (g, k') e) (λ i k' e. others_lowered g i k' ne e) v

  pub others_kept_small : (g b : ℕ) (o : Option ℕ) → g ≢ h → IsNearest rank large g b o → IsNearest rank small g b o
  others_kept_small g b o ne v = nearest_same rank large small g b o (λ i k' e. others_lowered g i k' ne e) (λ i k' e. raised p i (g, k') e) v

  -- Suppose that the rank of node n is below a bound, or that another node of list h has a rank that is at least the bound and
  -- below the rank of n. Then the first node of list h with a rank of at least the bound is the same in `small` and `large`.
  pub kept_large : (b : ℕ) (o : Option ℕ) → (rank k < b) ⊎ IsBetween rank small h b (rank k) → IsNearest rank small h b o → IsNearest rank large h b o
  kept_large b None (inl lt) v = record { is = λ i k' e. elim (lowered p i h k' e) [ inl s ↦ v.is i k' s | inr w ↦ let r = ap rank w.2 in omega arith ] }
  kept_large b None (inr w) v = let u = v.is w.node w.key w.here in absurd (omega (arith, w.from))
  kept_large b (Some j) between v = record { is = (v.is.0, record { here = raised p j (h, v.is.0) l.here; from = l.from; least = least between }) }
    where
      l : IsLeastFrom rank small h b j v.is.0
      l = v.is.1

      least : (rank k < b) ⊎ IsBetween rank small h b (rank k) → (i k' : ℕ) → large i ≡ Some (h, k') → b ≤ rank k' → rank v.is.0 ≤ rank k'
      least (inl lt) i k' e le = elim (lowered p i h k' e) [ inl s ↦ l.least i k' s le | inr w ↦ let r = ap rank w.2 in absurd (omega arith) ]
      least (inr x) i k' e le = elim (lowered p i h k' e) [ inl s ↦ l.least i k' s le | inr w ↦ let r = ap rank w.2 in let u = l.least x.node x.key x.here x.from in omega (arith, x.below) ]

  pub kept_small : (b : ℕ) (o : Option ℕ) → (rank k < b) ⊎ IsBetween rank small h b (rank k) → IsNearest rank large h b o → IsNearest rank small h b o
  kept_small b None between v = record { is = λ i k' e. v.is i k' (raised p i (h, k') e) }
  kept_small b (Some j) between v = elim (lowered p j h v.is.0 l.here) [
    | inl s ↦ record { is = (v.is.0, record { here = s; from = l.from; least = λ i k' e le. l.least i k' (raised p i (h, k') e) le }) }
    | inr w ↦ let r = ap rank w.2 in absurd (elsewhere between r)
  ]
    where
      l : IsLeastFrom rank large h b j v.is.0
      l = v.is.1

      elsewhere : (rank k < b) ⊎ IsBetween rank small h b (rank k) → rank v.is.0 ≡ rank k → ⊥
      elsewhere (inl lt) r = omega (arith, l.from)
      elsewhere (inr x) r = let u = l.least x.node x.key (raised p x.node (h, x.key) x.here) x.from in omega (arith, x.below)

  -- Suppose that the rank of node n is at least a bound, and that no other node of list h has a rank that is at least the bound
  -- and below the rank of n. Then n is the first node of list h in `large` with a rank of at least the bound. In `small`, that
  -- first node is the node that is after n in `large`.
  pub joined_large : (b : ℕ) → b ≤ rank k → ((i k' : ℕ) → small i ≡ Some (h, k') → b ≤ rank k' → rank k ≤ rank k') → IsNearest rank large h b (Some n)
  joined_large b le above = record { is = (k, record { here = p.here; from = le; least = least }) }
    where
      least : (i k' : ℕ) → large i ≡ Some (h, k') → b ≤ rank k' → rank k ≤ rank k'
      least i k' e from = elim (lowered p i h k' e) [ inl s ↦ above i k' s from | inr w ↦ let r = ap rank w.2 in omega arith ]

  pub joined_small : (b : ℕ) (o : Option ℕ) → b ≤ rank k → ((i k' : ℕ) → small i ≡ Some (h, k') → b ≤ rank k' → rank k + 1 ≤ rank k')
      → IsNearest rank large h (rank k + 1) o → IsNearest rank small h b o
  joined_small b None le above v = record { is = below }
    where
      below : (i k' : ℕ) → small i ≡ Some (h, k') → rank k' < b
      below i k' e = elim (cases_lt (rank k') b) [
        | inl lt ↦ lt
        | inr from ↦ let a = above i k' e from in let u = v.is i k' (raised p i (h, k') e) in absurd (omega arith)
      ]
  joined_small b (Some j) le above v = elim (lowered p j h v.is.0 l.here) [
    | inl s ↦ record { is = (v.is.0, record { here = s; from = omega (arith, l.from); least = λ i k' e from. l.least i k' (raised p i (h, k') e) (above i k' e from) }) }
    | inr w ↦ let r = ap rank w.2 in absurd (omega (arith, l.from))
  ]
    where
      l : IsLeastFrom rank large h (rank k + 1) j v.is.0
      l = v.is.1
