-- The rank of a node, by which it is linked: its key, or in a loose list the time of its insertion.
use Rattle.std.proofs.Common.{◌≡◌, ℕ, ◌+◌, ◌-◌, ◌<◌, ◌≤◌, Bool, true, false, cond, eqb, List, Option, Some, None, set, refl, ap, sym, ◌∙◌, inl, inr, arith}
use Rattle.std.proofs.lemmas.Bool.{cases_lt, cases_eq, eq-eqb, ne_eqb}
use Rattle.std.specs.Prelude.{◌≢◌}
use Rattle.klist_core.specs.Places.{IsLoose, IsByKey, in_three, place_at}
use Rattle.klist_core.specs.Links.{IsLeastFrom, IsNearest, IsChain, back_from, ranked, ranks}
use Rattle.klist_core.proofs.NearestChanged.{IsPut, same_list, same_key, nearest_same}

-- the rank of a node that is inserted into list h under the key k at the time `now`
abbrev pub rank_in : ℕ → ℕ → ℕ → ℕ
rank_in h now k = cond (eqb (in_three h) 0) now k

pub by_time : (h now k : ℕ) → IsLoose h → rank_in h now k ≡ now
by_time h now k e = ap (λ b. cond b now k) (eq-eqb (in_three h) 0 e)

pub by_key : (h now k : ℕ) → IsByKey h → rank_in h now k ≡ k
by_key h now k lt = ap (λ b. cond b now k) (ne_eqb (in_three h) 0 (λ e. omega (arith, lt)))

pub ranked_there : (time h k : ℕ) (o : Option (ℕ × ℕ)) → o ≡ Some (h, k) → ranked time o ≡ Some (h, rank_in h time k)
ranked_there time h k o e = ap (ranked time) e

pub unranked : (time h r : ℕ) (o : Option (ℕ × ℕ)) → ranked time o ≡ Some (h, r) → (k : ℕ) × (o ≡ Some (h, k))
unranked time h r None e = absurd (let f : ◌≡◌ {A = Option (ℕ × ℕ)} None (Some (h, r)) = e in cc)
unranked time h r (Some (g, k)) e =
    let here : ranked time (Some (g, k)) ≡ Some (g, rank_in g time k) = refl in (k, ap (λ (x : ℕ). Some (x, k)) (same_list here e))

-- in a list that is linked by key, ranks are keys
pub ranked_by_key : (time h k : ℕ) (o : Option (ℕ × ℕ)) → IsByKey h → o ≡ Some (h, k) → ranked time o ≡ Some (h, k)
ranked_by_key time h k o lt e = ranked_there time h k o e ∙ ap (λ (r : ℕ). Some (h, r)) (by_key h time k lt)

pub key_ranked : (time h k : ℕ) (o : Option (ℕ × ℕ)) → IsByKey h → ranked time o ≡ Some (h, k) → o ≡ Some (h, k)
key_ranked time h k o lt e =
    let w = unranked time h k o e in
    w.1 ∙ ap (λ (r : ℕ). Some (h, r)) (same_key (ranked_by_key time h w.0 o lt w.1) e)

pub nearest_by_key : (rank came : ℕ → ℕ) (places : List (Option (ℕ × ℕ))) (h b : ℕ) (o : Option ℕ) → IsByKey h → IsNearest rank (ranks came places) h b o → IsNearest rank (place_at places) h b o
nearest_by_key rank came places h b o lt v =
    nearest_same rank (ranks came places) (place_at places) h b o (λ i k e. key_ranked (came i) h k (place_at places i) lt e) (λ i k e. ranked_by_key (came i) h k (place_at places i) lt e) v

pub nearest_ranked : (rank came : ℕ → ℕ) (places : List (Option (ℕ × ℕ))) (h b : ℕ) (o : Option ℕ) → IsByKey h → IsNearest rank (place_at places) h b o → IsNearest rank (ranks came places) h b o
nearest_ranked rank came places h b o lt v =
    nearest_same rank (place_at places) (ranks came places) h b o (λ i k e. ranked_by_key (came i) h k (place_at places i) lt e) (λ i k e. key_ranked (came i) h k (place_at places i) lt e) v

-- if all keys and times of insertion are below `now`, all ranks are below `now`
pub rank_below : (came : ℕ → ℕ) (now : ℕ) (places : List (Option (ℕ × ℕ))) → ((i : ℕ) → came i < now) → ((i h k : ℕ) → place_at places i ≡ Some (h, k) → k < now)
    → (i h r : ℕ) → ranks came places i ≡ Some (h, r) → r < now
rank_below came now places before keyed i h r e =
    let w = unranked (came i) h r (place_at places i) e in
    let is = same_key e (ranked_there (came i) h w.0 (place_at places i) w.1) in
    elim (cases_eq (in_three h) 0) [
      | inl loose ↦ omega (arith, is, by_time h (came i) w.0 loose, before i)
      | inr other ↦ omega (arith, is, by_key h (came i) w.0 (omega (arith, other)), keyed i h w.0 w.1)
    ]

-- Suppose that all ranks of list h are below the limits l and l', and that the bound b with l admits the same ranks as the bound
-- b' with l'. Then the nearest node downwards is the same with l and b as with l' and b'.
pub nearest_limit : (l l' : ℕ) (place : ℕ → Option (ℕ × ℕ)) (h b b' : ℕ) (o : Option ℕ) → ((i r : ℕ) → place i ≡ Some (h, r) → (r < l) × (r < l'))
    → ((r : ℕ) → r < l → r < l' → b ≤ l - r → b' ≤ l' - r) → ((r : ℕ) → r < l → r < l' → b' ≤ l' - r → b ≤ l - r)
    → IsNearest (back_from l) place h b o → IsNearest (back_from l') place h b' o
nearest_limit l l' place h b b' None below to back v = record {
  is = λ i r e. elim (cases_lt (back_from l' r) b') [
    | inl lt ↦ lt
    | inr le ↦ absurd (let w = below i r e in let u : l - r < b = v.is i r e in omega (arith, back r w.0 w.1 le))
  ];
}
nearest_limit l l' place h b b' (Some j) below to back v =
    let n : IsLeastFrom (back_from l) place h b j v.is.0 = v.is.1 in
    let w = below j v.is.0 n.here in
    record {
      is = (
        v.is.0,
        record {
          here = n.here;
          from = to v.is.0 w.0 w.1 n.from;
          least = λ i r e le.
              let u = below i r e in
              let least : l - v.is.0 ≤ l - r = n.least i r e (back r u.0 u.1 le) in omega (arith, w.0, w.1, u.0, u.1);
        },
      );
    }

pub start_limit : (l l' : ℕ) (place : ℕ → Option (ℕ × ℕ)) (h : ℕ) (o : Option ℕ) → ((i r : ℕ) → place i ≡ Some (h, r) → (r < l) × (r < l'))
    → IsNearest (back_from l) place h 0 o → IsNearest (back_from l') place h 0 o
start_limit l l' place h o below v = nearest_limit l l' place h 0 0 o below (λ r a b e. omega arith) (λ r a b e. omega arith) v

pub next_limit : (l l' : ℕ) (place : ℕ → Option (ℕ × ℕ)) (h k : ℕ) (o : Option ℕ) → k < l → k < l' → ((i r : ℕ) → place i ≡ Some (h, r) → (r < l) × (r < l'))
    → IsNearest (back_from l) place h (back_from l k + 1) o → IsNearest (back_from l') place h (back_from l' k + 1) o
next_limit l l' place h k o lt lt' below v = nearest_limit l l' place h (back_from l k + 1) (back_from l' k + 1) o below (λ r a b e. omega arith) (λ r a b e. omega arith) v

pub chain_limit : (l l' : ℕ) (place : ℕ → Option (ℕ × ℕ)) (heads : ℕ) (ends links : ℕ → Option ℕ) → ((i h r : ℕ) → place i ≡ Some (h, r) → (r < l) × (r < l'))
    → IsChain (back_from l) place heads ends links → IsChain (back_from l') place heads ends links
chain_limit l l' place heads ends links below c = record {
  begins = λ h lt. start_limit l l' place h (ends h) (λ i r. below i h r) (c.begins h lt);
  goes_on = λ i h k e. let w = below i h k e in next_limit l l' place h k (links i) w.0 w.1 (λ j r. below j h r) (c.goes_on i h k e);
}

-- the times `came`, with `time` for node n
abbrev pub come : (ℕ → ℕ) → ℕ → ℕ → ℕ → ℕ
come came time n i = cond (eqb i n) time (came i)

pub come_before : (came : ℕ → ℕ) (now time n i : ℕ) → time ≤ now → came i < now → come came time n i < now + 1
come_before came now time n i le lt = go (eqb i n)
  where
    go : (b : Bool) → cond b time (came i) < now + 1
    go true = omega (arith, le)
    go false = omega (arith, lt)

-- if no node of list h has the key k, no node of list h has the rank that a node inserted now under this key gets
pub rank_is_new : (came : ℕ → ℕ) (now : ℕ) (places : List (Option (ℕ × ℕ))) → ((i h r : ℕ) → ranks came places i ≡ Some (h, r) → r < now) → (h k : ℕ) → ((i : ℕ) → place_at places i ≢ Some (h, k))
    → (i : ℕ) → ranks came places i ≢ Some (h, rank_in h now k)
rank_is_new came now places below h k fresh i e = elim (cases_eq (in_three h) 0) [
  | inl loose ↦ omega (arith, below i h (rank_in h now k) e, by_time h now k loose)
  | inr other ↦ fresh i (key_ranked (came i) h k (place_at places i) (omega (arith, other)) (e ∙ ap (λ (r : ℕ). Some (h, r)) (by_key h now k (omega (arith, other)))))
]

-- if no node of list h has the new rank of node n, inserting n under its key also inserts it under its rank
pub put_ranked : (came : ℕ → ℕ) (time : ℕ) (places : List (Option (ℕ × ℕ))) (h n k : ℕ) → IsPut (place_at places) (place_at (set places n (Some (h, k)))) h n k
    → ((i : ℕ) → ranks came places i ≢ Some (h, rank_in h time k)) → IsPut (ranks came places) (ranks (come came time n) (set places n (Some (h, k)))) h n (rank_in h time k)
put_ranked came time places h n k p fresh = record {
  free = ap (ranked (came n)) p.free;
  here = ap (λ (t : ℕ). ranked t (place_at (set places n (Some (h, k))) n)) (ap (λ b. cond b time (came n)) (eq-eqb n n refl)) ∙ ranked_there time h k _ p.here;
  others = λ i ne. ap (λ (t : ℕ). ranked t (place_at (set places n (Some (h, k))) i)) (ap (λ b. cond b time (came i)) (ne_eqb i n ne)) ∙ ap (ranked (came i)) (p.others i ne);
  fresh = fresh;
}

-- removing node n from list h also removes its rank: with n put back under its rank, the new ranks are the old ranks
pub put_unranked : (came : ℕ → ℕ) (places : List (Option (ℕ × ℕ))) (h n k : ℕ) → IsPut (place_at (set places n None)) (place_at places) h n k
    → ((i j g r : ℕ) → ranks came places i ≡ Some (g, r) → ranks came places j ≡ Some (g, r) → i ≡ j)
    → IsPut (ranks came (set places n None)) (ranks came places) h n (rank_in h (came n) k)
put_unranked came places h n k p apart = record {
  free = gone;
  here = ranked_there (came n) h k (place_at places n) p.here;
  others = λ i ne. ap (ranked (came i)) (p.others i ne);
  fresh = λ i e. elim (cases_eq i n) [
    | inl is ↦ let f : ◌≡◌ {A = Option (ℕ × ℕ)} None (Some (h, rank_in h (came n) k)) = sym gone ∙ (sym (ap (ranks came (set places n None)) is) ∙ e) in cc
    | inr ne ↦ ne (apart i n h (rank_in h (came n) k) (ap (ranked (came i)) (p.others i ne) ∙ e) (ranked_there (came n) h k (place_at places n) p.here))
  ];
}
  where
    gone : ranks came (set places n None) n ≡ None
    gone = ap (ranked (came n)) p.free
