-- The links of a table in one direction are still a chain after an insertion and after a removal.
use Rattle.std.proofs.Common.{◌≡◌, ℕ, ◌+◌, ◌<◌, ◌≤◌, Option, Some, None, refl, ap, sym, ◌∙◌, subst, ◌⊎◌, inl, inr, arith}
use Rattle.std.specs.Prelude.{◌≢◌}
use Rattle.std.proofs.lemmas.Bool.{cases_lt, cases_eq}
use Rattle.klist_core.specs.Links.{IsNearest, IsAfter, IsChain}
use Rattle.klist_core.proofs.Directions.{IsDirection, IsKeyed, IsGreatest, IsLastBelow}
use Rattle.klist_core.proofs.NearestChanged.{IsPut, IsBetween, same_list, same_key, others_kept_large, others_kept_small, kept_large, kept_small, joined_large, joined_small}

-- In one direction, `to` is now the link of node `before`, or the first node of list h in this direction if `before` is None.
-- Nothing else has changed, except perhaps the link of node n.
pub record IsRelinked (ends links ends' links' : ℕ → Option ℕ) (h n : ℕ) (before to : Option ℕ) : Type 0 where
  pub begin : before ≡ None → ends' h ≡ to
  pub other_begin : (g : ℕ) → (g ≡ h → before ≢ None) → ends' g ≡ ends g
  pub link : (i : ℕ) → before ≡ Some i → links' i ≡ to
  pub other_link : (i : ℕ) → i ≢ n → before ≢ Some i → links' i ≡ links i

-- no two nodes of list h have the same key, and all keys of list h are below the limit
pub record IsApart (limit : ℕ) (place : ℕ → Option (ℕ × ℕ)) (h : ℕ) : Type 0 where
  pub keyed : IsKeyed limit place h
  pub apart : (i j k : ℕ) → place i ≡ Some (h, k) → place j ≡ Some (h, k) → i ≡ j

-- What an insertion and a removal have in common: `old` becomes `new`. `small` is the one without node n: it is `old` for an
-- insertion, and `new` for a removal.
record IsChange (rank : ℕ → ℕ) (old new small : ℕ → Option (ℕ × ℕ)) (h n r : ℕ) (to : Option ℕ) : Type 0 where
  others : (g b : ℕ) (o : Option ℕ) → g ≢ h → IsNearest rank old g b o → IsNearest rank new g b o
  kept : (b : ℕ) (o : Option ℕ) → (r < b) ⊎ IsBetween rank small h b r → IsNearest rank old h b o → IsNearest rank new h b o
  joined : (b : ℕ) → b ≤ r → ((i k : ℕ) → small i ≡ Some (h, k) → b ≤ rank k → r ≤ rank k) → IsNearest rank new h b to
  was : (i : ℕ) (q : ℕ × ℕ) → i ≢ n → new i ≡ Some q → (old i ≡ Some q) × (small i ≡ Some q)

module _ (limit : ℕ) (rank back : ℕ → ℕ) (d : IsDirection limit rank back) (old new small : ℕ → Option (ℕ × ℕ)) (heads h n r : ℕ) (to : Option ℕ) (c : IsChange rank old new small h n r to)
    (a : IsApart limit small h) (ends links ends' links' : ℕ → Option ℕ) (chain : IsChain rank old heads ends links) where
  begins : (before : Option ℕ) → IsRelinked ends links ends' links' h n before to → IsLastBelow rank small h r before → h < heads → IsNearest rank new h 0 (ends' h)
  begins None x l lt = subst (λ o. IsNearest rank new h 0 o) (sym (x.begin refl)) (c.joined 0 (omega arith) (λ i k e le. l.is i k e))
  begins (Some p) x l lt =
      let g : IsGreatest rank small h r p l.is.0 = l.is.1 in
      subst (λ o. IsNearest rank new h 0 o) (sym (x.other_begin h (λ e q. cc)))
      (c.kept 0 (ends h) (inr (record { node = p; key = l.is.0; here = g.here; from = omega arith; below = g.below })) (chain.begins h lt))

  -- after the change, `ends'` gives the first node of list g in this direction
  begins_at : (before : Option ℕ) → IsRelinked ends links ends' links' h n before to → IsLastBelow rank small h r before → (g : ℕ) → g < heads → IsNearest rank new g 0 (ends' g)
  begins_at before x l g lt = elim (cases_eq g h) [
    | inl e ↦ subst (λ f. IsNearest rank new f 0 (ends' f)) (sym e) (begins before x l (subst (λ f. f < heads) e lt))
    | inr ne ↦ subst (λ o. IsNearest rank new g 0 o) (sym (x.other_begin g (λ e. absurd (ne e)))) (c.others g 0 (ends g) ne (chain.begins g lt))
  ]

  -- after the change, the link of node i of list h is the node after i, unless i is n
  goes_on : (before : Option ℕ) → IsRelinked ends links ends' links' h n before to → IsLastBelow rank small h r before
      → (i k : ℕ) → i ≢ n → old i ≡ Some (h, k) → small i ≡ Some (h, k) → IsNearest rank new h (rank k + 1) (links' i)
  goes_on None x l i k ne was there =
      subst (λ o. IsNearest rank new h (rank k + 1) o) (sym (x.other_link i ne (λ q. cc)))
      (c.kept (rank k + 1) (links i) (inl (omega (arith, l.is i k there))) (chain.goes_on i h k was))
  goes_on (Some p) x l i k ne was there = elim (cases_eq p i) [ inl e ↦ at e | inr other ↦ elim (cases_lt (rank k) r) [ inl lt ↦ between other lt | inr le ↦ after other le ] ]
    where
      kp : ℕ
      kp = l.is.0

      g : IsGreatest rank small h r p kp
      g = l.is.1

      at : p ≡ i → IsNearest rank new h (rank k + 1) (links' i)
      at e =
          let same : kp ≡ k = same_key (sym (ap small e) ∙ g.here) there in
          let ranks = ap rank same in
          subst (λ o. IsNearest rank new h (rank k + 1) o) (sym (x.link i (ap Some e)))
          (c.joined (rank k + 1) (omega (arith, g.below)) (λ j k' e' le. elim (cases_lt (rank k') r) [ inl lt ↦ let u = g.greatest j k' e' lt in absurd (omega arith) | inr ge ↦ ge ]))

      after : p ≢ i → r ≤ rank k → IsNearest rank new h (rank k + 1) (links' i)
      after other le = subst (λ o. IsNearest rank new h (rank k + 1) o) (sym (x.other_link i ne (λ q. let e : p ≡ i = cc in other e)))
          (c.kept (rank k + 1) (links i) (inl (omega arith)) (chain.goes_on i h k was))

      between : p ≢ i → rank k < r → IsNearest rank new h (rank k + 1) (links' i)
      between other lt =
          let le = g.greatest i k there lt in
          let apart : rank kp ≢ rank k = λ e. let same = d.same kp k (a.keyed.below p kp g.here) (a.keyed.below i k there) e in other (a.apart p i k (g.here ∙ ap (λ (y : ℕ). Some (h, y)) same) there) in
          subst (λ o. IsNearest rank new h (rank k + 1) o) (sym (x.other_link i ne (λ q. let e : p ≡ i = cc in other e)))
          (c.kept (rank k + 1) (links i) (inr (record { node = p; key = kp; here = g.here; from = omega arith; below = g.below })) (chain.goes_on i h k was))

  not_before : (before : Option ℕ) → IsLastBelow rank small h r before → (i g k : ℕ) → g ≢ h → small i ≡ Some (g, k) → before ≢ Some i
  not_before None l i g k ne e q = cc
  not_before (Some p) l i g k ne e q =
      let w : IsGreatest rank small h r p l.is.0 = l.is.1 in
      let same : p ≡ i = cc in ne (same_list e (sym (ap small same) ∙ w.here))

  relinked : (before : Option ℕ) → IsRelinked ends links ends' links' h n before to → IsLastBelow rank small h r before → IsAfter rank new n (links' n) → IsChain rank new heads ends' links'
  relinked before x l own = record { begins = begins_at before x l; goes_on = on }
    where
      on : (i : ℕ) → IsAfter rank new i (links' i)
      on i g k e = elim (cases_eq i n) [
        | inl is ↦ subst (λ j. IsAfter rank new j (links' j)) (sym is) own g k e
        | inr ne ↦ let w = c.was i (g, k) ne e in elim (cases_eq g h) [
          | inl same ↦ subst (λ f. IsNearest rank new f (rank k + 1) (links' i)) (sym same)
              (goes_on before x l i k ne (w.0 ∙ ap (λ (f : ℕ). Some (f, k)) same) (w.1 ∙ ap (λ (f : ℕ). Some (f, k)) same))
          | inr other ↦ subst (λ o. IsNearest rank new g (rank k + 1) o) (sym (x.other_link i ne (not_before before l i g k other w.1)))
              (c.others g (rank k + 1) (links i) other (chain.goes_on i g k w.0))
        ]
      ]

-- if node n is linked after `before`, the last node below its rank, the links are still a chain
pub chain_inserted : (limit : ℕ) (rank back : ℕ → ℕ) → IsDirection limit rank back → (small large : ℕ → Option (ℕ × ℕ)) (heads h n k : ℕ) → IsPut small large h n k → IsApart limit small h
    → (ends links ends' links' : ℕ → Option ℕ) (before : Option ℕ) → IsRelinked ends links ends' links' h n before (Some n)
    → IsLastBelow rank small h (rank k) before → IsNearest rank small h (rank k + 1) (links' n)
    → IsChain rank small heads ends links → IsChain rank large heads ends' links'
chain_inserted limit rank back d small large heads h n k p a ends links ends' links' before x l after chain =
    relinked limit rank back d small large small heads h n (rank k) (Some n) change a ends links ends' links' chain before x l own
  where
    change : IsChange rank small large small h n (rank k) (Some n)
    change = record {
      others = others_kept_large rank small large h n k p;
      kept = kept_large rank small large h n k p;
      joined = joined_large rank small large h n k p;
      was = λ i q ne e. (sym (p.others i ne) ∙ e, sym (p.others i ne) ∙ e);
    }

    own : IsAfter rank large n (links' n)
    own g k' e =
        let list = same_list p.here e in let key = same_key p.here e in
        subst (λ f. IsNearest rank large f (rank k' + 1) (links' n)) list
        (subst (λ y. IsNearest rank large h (rank y + 1) (links' n)) key (kept_large rank small large h n k p (rank k + 1) (links' n) (inl (omega arith)) after))

-- if node n is removed, and the node before it is linked to the node after it, the links are still a chain
pub chain_removed : (limit : ℕ) (rank back : ℕ → ℕ) → IsDirection limit rank back → (small large : ℕ → Option (ℕ × ℕ)) (heads h n k : ℕ) → k < limit → IsPut small large h n k → IsApart limit small h
    → (ends links ends' links' : ℕ → Option ℕ) (before after : Option ℕ) → IsRelinked ends links ends' links' h n before after
    → IsLastBelow rank small h (rank k) before → IsNearest rank large h (rank k + 1) after
    → IsChain rank large heads ends links → IsChain rank small heads ends' links'
chain_removed limit rank back d small large heads h n k fits p a ends links ends' links' before after x l next chain =
    relinked limit rank back d large small small heads h n (rank k) after change a ends links ends' links' chain before x l (λ g k' e. let f = p.free in absurd (let q : ◌≡◌ {A = Option (ℕ × ℕ)} None (Some (g, k')) = cc in cc))
  where
    above : (b : ℕ) → ((i k' : ℕ) → small i ≡ Some (h, k') → b ≤ rank k' → rank k ≤ rank k') → (i k' : ℕ) → small i ≡ Some (h, k') → b ≤ rank k' → rank k + 1 ≤ rank k'
    above b f i k' e le = elim (cases_eq (rank k') (rank k)) [
      | inl r ↦ let same = d.same k' k (a.keyed.below i k' e) fits r in absurd (p.fresh i (e ∙ ap (λ (y : ℕ). Some (h, y)) same))
      | inr ne ↦ let u = f i k' e le in omega arith
    ]

    change : IsChange rank large small small h n (rank k) after
    change = record {
      others = others_kept_small rank small large h n k p;
      kept = kept_small rank small large h n k p;
      joined = λ b le f. joined_small rank small large h n k p b after le (above b f) next;
      was = λ i q ne e. (p.others i ne ∙ e, e);
    }
