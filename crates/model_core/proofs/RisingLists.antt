-- Two lists that rise by key and have the same members are equal. After a block is added to a list, a look-up of its first frame
-- finds it.
use Rattle.std.proofs.Common.{◌≡◌, ◌≢◌, ℕ, ◌+◌, ◌<◌, Bool, true, false, ◌||◌, eqb, List, [], ◌∷◌, ◌++◌, map, Option, Some, None, refl, sym, ap, ◌∙◌, subst, ◌⊎◌, inl, inr, arith}
use Rattle.std.specs.Prelude.{if◌then◌else◌}
use Rattle.std.specs.List.{list_any, AllByRecursion as Each}
use Rattle.std.proofs.lemmas.Bool.{cases_eq, eqb-true, eqb-false, eq-eqb, ne_eqb}
use Rattle.std.proofs.lemmas.List.{map-id}
use Rattle.model_core.specs.Blocks.{Block, with_taken}
use Rattle.model_core.specs.Machine.{order_in}
use Rattle.model_core.specs.WellFormed.{RisesFrom}
use Rattle.model_core.specs.Elements.{IsIn}
use Rattle.model_core.proofs.Lists.{some_any, any_in, key_above}

-- u is a number of the list
abbrev pub has : ℕ → List ℕ → Bool
has u xs = list_any (λ v. eqb v u) xs

-- a list that rises from n has no number below n
pub none_below : (n u : ℕ) (xs : List ℕ) → RisesFrom n xs → u < n → has u xs ≡ false
none_below n u [] rises below = refl
none_below n u (x ∷ xs) (low, rises) below =
    ap (λ b. b || has u xs) (ne_eqb x u (λ same. absurd (omega arith))) ∙ none_below (x + 1) u xs rises (omega arith)

in_has : (u : ℕ) (xs : List ℕ) → IsIn u xs → has u xs ≡ true
in_has u xs i = any_in (λ v. eqb v u) u xs i (eq-eqb u u refl)

has_in : (u : ℕ) (xs : List ℕ) → has u xs ≡ true → IsIn u xs
has_in u xs e = let r : (v : ℕ) × IsIn v xs × (eqb v u ≡ true) = some_any (λ v. eqb v u) xs e in subst (λ v. IsIn v xs) (eqb-true r.0 u r.2) r.1

-- two lists that rise by key are equal if they have the same members
pub same_keyed : {X : Type 0} (key : X → ℕ) (n : ℕ) (xs ys : List X) → RisesFrom n (map key xs) → RisesFrom n (map key ys)
    → ((x : X) → IsIn x xs → IsIn x ys) → ((x : X) → IsIn x ys → IsIn x xs) → xs ≡ ys
same_keyed key n [] [] r s f g = refl
same_keyed key n [] (y ∷ ys) r s f g = absurd (g y (inl refl))
same_keyed key n (x ∷ xs) [] r s f g = absurd (f x (inl refl))
same_keyed {X} key n (x ∷ xs) (y ∷ ys) (lx, r) (ly, s) f g = same (f x (inl refl)) (g y (inl refl)) (same_keyed key (key x + 1) xs ys r)
  where
    More : Type 0
    More = RisesFrom (key x + 1) (map key ys) → ((z : X) → IsIn z xs → IsIn z ys) → ((z : X) → IsIn z ys → IsIn z xs) → xs ≡ ys

    tails : y ≡ x → More → (x ∷ xs) ≡ (y ∷ ys)
    tails e more = let k : key y ≡ key x = ap key e in
        ap (λ z. z ∷ xs) (sym e) ∙ ap (λ zs. y ∷ zs) (more (subst (λ m. RisesFrom (m + 1) (map key ys)) k s)
        (λ z i. elim (f z (inr i)) [ inl q ↦ absurd (let u = key_above key (key x + 1) z xs r i in let v : key y ≡ key z = ap key q in omega arith) | inr j ↦ j ])
        (λ z i. elim (g z (inr i)) [ inl q ↦ absurd (let u = key_above key (key y + 1) z ys s i in let v : key x ≡ key z = ap key q in omega arith) | inr j ↦ j ]))

    same : (y ≡ x) ⊎ IsIn x ys → (x ≡ y) ⊎ IsIn y xs → More → (x ∷ xs) ≡ (y ∷ ys)
    same (inl e) b more = tails e more
    same (inr i) (inl e) more = tails (sym e) more
    same (inr i) (inr j) more = absurd (let u = key_above key (key y + 1) x ys s i in let v = key_above key (key x + 1) y xs r j in omega arith)

-- two rising lists of numbers are equal if they have the same members (`same_members`), or if `has` returns the same for both
-- lists for every number (`same_rising`)
pub same_members : (n : ℕ) (xs ys : List ℕ) → RisesFrom n xs → RisesFrom n ys → ((u : ℕ) → IsIn u xs → IsIn u ys) → ((u : ℕ) → IsIn u ys → IsIn u xs) → xs ≡ ys
same_members n xs ys r q there back =
    same_keyed (λ u. u) n xs ys (subst (λ us. RisesFrom n us) (sym (map-id xs)) r) (subst (λ us. RisesFrom n us) (sym (map-id ys)) q) there back

pub same_rising : (n : ℕ) (xs ys : List ℕ) → RisesFrom n xs → RisesFrom n ys → ((u : ℕ) → has u xs ≡ has u ys) → xs ≡ ys
same_rising n xs ys r q same =
    same_members n xs ys r q (λ u i. has_in u ys (sym (same u) ∙ in_has u xs i)) (λ u i. has_in u xs (same u ∙ in_has u ys i))

-- Blocks

-- If no block in front of b in the list begins at b's first frame, a look-up of this frame returns the order of b. A look-up of
-- any other frame returns what it returns without b.
pub order_in-middle : (xs ys : List Block) (b : Block) → Each (λ x. x.first ≢ b.first) xs → (f : ℕ) → order_in (xs ++ b ∷ ys) f ≡ with_taken (order_in (xs ++ ys)) b.first b.order f
order_in-middle [] ys b e f = turned b.first f (Some b.order) (order_in ys f)
  where
    turned : (a c : ℕ) (p q : Option ℕ) → (if eqb a c then p else q) ≡ (if eqb c a then p else q)
    turned a c p q = elim (cases_eq a c) [
      | inl same ↦ ap (λ t. if t then p else q) (eq-eqb a c same) ∙ sym (ap (λ t. if t then p else q) (eq-eqb c a (sym same)))
      | inr other ↦ ap (λ t. if t then p else q) (ne_eqb a c other) ∙ sym (ap (λ t. if t then p else q) (ne_eqb c a (λ same. other (sym same))))
    ]
order_in-middle (x ∷ xs) ys b (ne, e) f = go (eqb x.first f) refl (order_in-middle xs ys b e f)
  where
    go : (t : Bool) → eqb x.first f ≡ t → order_in (xs ++ b ∷ ys) f ≡ with_taken (order_in (xs ++ ys)) b.first b.order f
        → (if t then Some x.order else order_in (xs ++ b ∷ ys) f) ≡ (if eqb f b.first then Some b.order else (if t then Some x.order else order_in (xs ++ ys) f))
    go true is ih = sym (ap (λ t. if t then Some b.order else Some x.order) (ne_eqb f b.first (λ same. ne (eqb-true x.first f is ∙ same))))
    go false is ih = ih

-- if no block of the list begins at frame f, a look-up of f returns None ..
pub none_found : (f : ℕ) (bs : List Block) → Each (λ b. b.first ≢ f) bs → order_in bs f ≡ None
none_found f [] others = refl
none_found f (b ∷ bs) (other, others) = ap (λ t. if t then Some b.order else order_in bs f) (ne_eqb b.first f other) ∙ none_found f bs others

-- .. and if a look-up of f returns None, no block of the list begins at frame f
none_begins : (f : ℕ) (bs : List Block) → order_in bs f ≡ None → Each (λ b. b.first ≢ f) bs
none_begins f [] none = tt
none_begins f (b ∷ bs) none = go (eqb b.first f) refl none (none_begins f bs)
  where
    go : (t : Bool) → eqb b.first f ≡ t → (if t then Some b.order else order_in bs f) ≡ None → (order_in bs f ≡ None → Each (λ b. b.first ≢ f) bs) → Each (λ b. b.first ≢ f) (b ∷ bs)
    go true is none rest = absurd (cc)
    go false is none rest = (eqb-false b.first f is, rest none)
