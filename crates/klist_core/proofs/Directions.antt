-- The two directions of a list: how nearest nodes in one direction follow from nearest nodes in the other.
use Rattle.std.proofs.Common.{◌≡◌, ℕ, ◌+◌, ◌<◌, ◌≤◌, Option, Some, None, ap, ◌∙◌, inl, inr, arith}
use Rattle.std.specs.Prelude.{MatchOption, ◌≢◌}
use Rattle.std.proofs.lemmas.Bool.{cases_lt, cases_eq}
use Rattle.klist_core.specs.Places.{IsByKey}
use Rattle.klist_core.specs.Links.{NoneFrom, IsLeastFrom, IsNearest, IsFollowing, up, back_from}

-- for keys below the limit, different keys have different ranks, and `rank` rises if and only if `back` falls
pub record IsDirection (limit : ℕ) (rank back : ℕ → ℕ) : Type 0 where
  pub same : (x y : ℕ) → x < limit → y < limit → rank x ≡ rank y → x ≡ y
  pub turned : (x y : ℕ) → x < limit → y < limit → rank x < rank y → back y < back x
  pub returned : (x y : ℕ) → x < limit → y < limit → back x < back y → rank y < rank x

pub upwards : (limit : ℕ) → IsDirection limit up (back_from limit)
upwards limit = record { same = λ x y a b e. e; turned = λ x y a b lt. omega arith; returned = λ x y a b lt. omega arith }

pub downwards : (limit : ℕ) → IsDirection limit (back_from limit) up
downwards limit = record { same = λ x y a b e. omega arith; turned = λ x y a b lt. omega arith; returned = λ x y a b lt. omega arith }

-- node j is in list h under the key k, and its rank is the greatest rank in list h that is below r
pub record IsGreatest (rank : ℕ → ℕ) (place : ℕ → Option (ℕ × ℕ)) (h r j k : ℕ) : Type 0 where
  pub here : place j ≡ Some (h, k)
  pub below : rank k < r
  pub greatest : (i k' : ℕ) → place i ≡ Some (h, k') → rank k' < r → rank k' ≤ rank k

-- o is the last node of list h with a rank below r, or None if there is none
pub record IsLastBelow (rank : ℕ → ℕ) (place : ℕ → Option (ℕ × ℕ)) (h r : ℕ) (o : Option ℕ) : Type 0 where
  pub is : MatchOption o ((i k : ℕ) → place i ≡ Some (h, k) → r ≤ rank k) (λ j. (k : ℕ) × IsGreatest rank place h r j k)

-- the keys of list h are below the limit
pub record IsKeyed (limit : ℕ) (place : ℕ → Option (ℕ × ℕ)) (h : ℕ) : Type 0 where
  pub below : (i k : ℕ) → place i ≡ Some (h, k) → k < limit

-- in the direction of `back`, the first node of list h after the key k is the last node with a rank below the rank of k
pub last_below : {limit : ℕ} (rank back : ℕ → ℕ) (place : ℕ → Option (ℕ × ℕ)) (h k : ℕ) (o : Option ℕ) → IsDirection limit rank back → IsKeyed limit place h → k < limit
    → IsNearest back place h (back k + 1) o → IsLastBelow rank place h (rank k) o
last_below {limit} rank back place h k None d keyed small v = record { is = above }
  where
    above : (i k' : ℕ) → place i ≡ Some (h, k') → rank k ≤ rank k'
    above i k' e = elim (cases_lt (rank k') (rank k)) [
      | inl lt ↦ let t = d.turned k' k (keyed.below i k' e) small lt in let v' = v.is i k' e in absurd (omega arith)
      | inr le ↦ le
    ]
last_below {limit} rank back place h k (Some j) d keyed small v = record { is = (v.is.0, record { here = l.here; below = d.returned k kj small fits (omega (arith, l.from)); greatest = greatest }) }
  where
    kj : ℕ
    kj = v.is.0

    l : IsLeastFrom back place h (back k + 1) j kj
    l = v.is.1

    fits : kj < limit
    fits = keyed.below j kj l.here

    greatest : (i k' : ℕ) → place i ≡ Some (h, k') → rank k' < rank k → rank k' ≤ rank kj
    greatest i k' e lt = elim (cases_lt (rank kj) (rank k')) [
      | inl above ↦
          let t = d.turned k' k (keyed.below i k' e) small lt in
          let u = d.turned kj k' fits (keyed.below i k' e) above in
          let v' = l.least i k' e (omega arith) in absurd (omega arith)
      | inr le ↦ le
    ]

-- the node before a new key is the node before the first node above the key, or the last node if no node is above the key
across_none : {limit : ℕ} (rank back : ℕ → ℕ) (place : ℕ → Option (ℕ × ℕ)) (h k : ℕ) (o : Option ℕ) → IsDirection limit rank back → IsKeyed limit place h → k < limit → ((i : ℕ) → place i ≢ Some (h, k))
    → NoneFrom rank place h (rank k + 1) → IsNearest back place h 0 o → IsNearest back place h (back k + 1) o
across_none {limit} rank back place h k None d keyed small fresh after v = record { is = λ i k' e. let v' = v.is i k' e in absurd (omega arith) }
across_none {limit} rank back place h k (Some j) d keyed small fresh after v = record { is = (kj, record { here = l.here; from = apart; least = λ i k' e le. l.least i k' e (omega arith) }) }
  where
    kj : ℕ
    kj = v.is.0

    l : IsLeastFrom back place h 0 j kj
    l = v.is.1

    fits : kj < limit
    fits = keyed.below j kj l.here

    below : rank kj < rank k + 1
    below = after j kj l.here

    apart : back k + 1 ≤ back kj
    apart = elim (cases_eq (rank kj) (rank k)) [
      | inl e ↦ let same = d.same kj k fits small e in absurd (fresh j (l.here ∙ ap (λ (x : ℕ). Some (h, x)) same))
      | inr ne ↦ let t = d.turned kj k fits small (omega (arith, below)) in omega arith
    ]

across_some : {limit : ℕ} (rank back : ℕ → ℕ) (place : ℕ → Option (ℕ × ℕ)) (h k i : ℕ) (o : Option ℕ) → IsDirection limit rank back → IsKeyed limit place h → k < limit → ((i : ℕ) → place i ≢ Some (h, k))
    → (ki : ℕ) → IsLeastFrom rank place h (rank k + 1) i ki → IsNearest back place h (back ki + 1) o → IsNearest back place h (back k + 1) o
across_some {limit} rank back place h k i None d keyed small fresh ki n v = record { is = below }
  where
    below : (j k' : ℕ) → place j ≡ Some (h, k') → back k' < back k + 1
    below j k' e = elim (cases_lt (back k') (back k + 1)) [
      | inl lt ↦ lt
      | inr le ↦
          let fits = keyed.below j k' e in
          let r = d.returned k k' small fits (omega arith) in
          let t = d.turned k' ki fits (keyed.below i ki n.here) (omega (arith, n.from)) in
          let v' = v.is j k' e in absurd (omega arith)
    ]
across_some {limit} rank back place h k i (Some j) d keyed small fresh ki n v = record { is = (kj, record { here = l.here; from = apart; least = least }) }
  where
    kj : ℕ
    kj = v.is.0

    l : IsLeastFrom back place h (back ki + 1) j kj
    l = v.is.1

    fits : kj < limit
    fits = keyed.below j kj l.here

    before : rank kj < rank ki
    before = d.returned ki kj (keyed.below i ki n.here) fits (omega (arith, l.from))

    apart : back k + 1 ≤ back kj
    apart = elim (cases_lt (rank k) (rank kj)) [
      | inl lt ↦ let v' = n.least j kj l.here (omega arith) in absurd (omega (arith, before))
      | inr le ↦ elim (cases_eq (rank kj) (rank k)) [
        | inl e ↦ let same = d.same kj k fits small e in absurd (fresh j (l.here ∙ ap (λ (x : ℕ). Some (h, x)) same))
        | inr ne ↦ let t = d.turned kj k fits small (omega arith) in omega arith
      ]
    ]

    least : (x k' : ℕ) → place x ≡ Some (h, k') → back k + 1 ≤ back k' → back kj ≤ back k'
    least x k' e le =
        let fx = keyed.below x k' e in
        let r = d.returned k k' small fx (omega arith) in
        let t = d.turned k' ki fx (keyed.below i ki n.here) (omega (arith, n.from)) in
        l.least x k' e (omega arith)

pub across : {limit : ℕ} (rank back : ℕ → ℕ) (place : ℕ → Option (ℕ × ℕ)) (h k : ℕ) (o r : Option ℕ) → IsDirection limit rank back → IsKeyed limit place h → k < limit → ((i : ℕ) → place i ≢ Some (h, k))
    → IsNearest rank place h (rank k + 1) o → IsByKey h → MatchOption o (IsNearest back place h 0 r) (λ i. IsFollowing back place i r) → IsNearest back place h (back k + 1) r
across {limit} rank back place h k None r d keyed small fresh v by_key w = across_none rank back place h k r d keyed small fresh v.is w
across {limit} rank back place h k (Some i) r d keyed small fresh v by_key w =
    let l : IsLeastFrom rank place h (rank k + 1) i v.is.0 = v.is.1 in
    across_some rank back place h k i r d keyed small fresh v.is.0 l (w h v.is.0 by_key l.here)
