-- Facts about lists: what is true of each element, what is true of some element, and lists that rise by key.
use Rattle.std.proofs.Common.{◌≡◌, ◌≢◌, ℕ, zero, suc, ◌+◌, ◌<◌, ◌≤◌, Bool, true, false, not, ◌||◌, cond, eqb, ltb, List, [], ◌∷◌, ◌++◌, map, get_or, replicate, Option, None, Some, refl, sym, ap, ◌∙◌, subst, ◌⊎◌, inl, inr, arith}
use Rattle.std.specs.Prelude.{if◌then◌else◌, is_some, filter, find, flat_map}
use Rattle.std.specs.List.{list_any, AllByRecursion as Each}
use Rattle.std.proofs.lemmas.List.{map-id, map-append}
pub use Rattle.std.proofs.lemmas.List.Folds.{list_any-append as any_append}
use Rattle.std.proofs.lemmas.Bool.{eqb-true, eqb-false, ne_eqb, eq-eqb, ltb-true, ltb-false, false≢true, or_left, or_right, or_parts}
use Rattle.model_core.specs.Elements.{IsIn}
use Rattle.model_core.specs.Machine.{put_rising, least_missing}
use Rattle.model_core.specs.WellFormed.{RisesFrom}

or_first : (c u v w : Bool) → w ≡ (u || v) → (c || w) ≡ ((c || u) || v)
or_first true u v w e = refl
or_first false u v w e = e

or_second : (c u v w : Bool) → w ≡ (u || v) → (c || w) ≡ (u || (c || v))
or_second true true v w e = refl
or_second true false v w e = refl
or_second false u v w e = e

pub or_turned : (a b c : Bool) → (a || (b || c)) ≡ (b || (a || c))
or_turned true true c = refl
or_turned true false c = refl
or_turned false b c = refl

-- Each element

pub each_append : {X : Type 0} (P : X → Type 0) (xs ys : List X) → Each P xs → Each P ys → Each P (xs ++ ys)
each_append P [] ys a b = b
each_append P (x ∷ xs) ys (p, a) b = (p, each_append P xs ys a b)

pub each_left : {X : Type 0} (P : X → Type 0) (xs ys : List X) → Each P (xs ++ ys) → Each P xs
each_left P [] ys a = tt
each_left P (x ∷ xs) ys (p, a) = (p, each_left P xs ys a)

pub each_right : {X : Type 0} (P : X → Type 0) (xs ys : List X) → Each P (xs ++ ys) → Each P ys
each_right P [] ys a = a
each_right P (x ∷ xs) ys (p, a) = each_right P xs ys a

-- If every element of a list has a property, this stays true when an element with the property is inserted. It also stays true
-- when an element is left out.
pub each_put : {X : Type 0} (P : X → Type 0) (xs ys : List X) (x : X) → Each P (xs ++ ys) → P x → Each P (xs ++ x ∷ ys)
each_put P xs ys x a p = each_append P xs (x ∷ ys) (each_left P xs ys a) (p, each_right P xs ys a)

pub each_less : {X : Type 0} (P : X → Type 0) (xs ys : List X) (x : X) → Each P (xs ++ x ∷ ys) → Each P (xs ++ ys)
each_less P xs ys x a = each_append P xs ys (each_left P xs (x ∷ ys) a) (each_right P xs (x ∷ ys) a).1

pub each_middle : {X : Type 0} (P : X → Type 0) (xs ys : List X) (x : X) → Each P (xs ++ x ∷ ys) → P x
each_middle P xs ys x a = (each_right P xs (x ∷ ys) a).0

pub each_weaker : {X : Type 0} (P Q : X → Type 0) → ((x : X) → P x → Q x) → (xs : List X) → Each P xs → Each Q xs
each_weaker P Q f [] a = tt
each_weaker P Q f (x ∷ xs) (p, a) = (f x p, each_weaker P Q f xs a)

pub each_both : {X : Type 0} (P Q R : X → Type 0) → ((x : X) → P x → Q x → R x) → (xs : List X) → Each P xs → Each Q xs → Each R xs
each_both P Q R f [] a b = tt
each_both P Q R f (x ∷ xs) (p, a) (q, b) = (f x p q, each_both P Q R f xs a b)

pub each_true : {X : Type 0} (P : X → Type 0) → ((x : X) → P x) → (xs : List X) → Each P xs
each_true P f [] = tt
each_true P f (x ∷ xs) = (f x, each_true P f xs)

pub each_map : {X Y : Type 0} (P : Y → Type 0) (f : X → Y) (xs : List X) → Each (λ x. P (f x)) xs → Each P (map f xs)
each_map P f [] a = tt
each_map P f (x ∷ xs) (p, a) = (p, each_map P f xs a)

pub each_unmap : {X Y : Type 0} (P : Y → Type 0) (f : X → Y) (xs : List X) → Each P (map f xs) → Each (λ x. P (f x)) xs
each_unmap P f [] a = tt
each_unmap P f (x ∷ xs) (p, a) = (p, each_unmap P f xs a)

pub each_flat_map : {X Y : Type 0} (P : Y → Type 0) (f : X → List Y) (xs : List X) → Each (λ x. Each P (f x)) xs → Each P (flat_map f xs)
each_flat_map P f [] a = tt
each_flat_map P f (x ∷ xs) (p, a) = each_append P (f x) (flat_map f xs) p (each_flat_map P f xs a)

pub each_unflat_map : {X Y : Type 0} (P : Y → Type 0) (f : X → List Y) (xs : List X) → Each P (flat_map f xs) → Each (λ x. Each P (f x)) xs
each_unflat_map P f [] a = tt
each_unflat_map P f (x ∷ xs) a = (each_left P (f x) (flat_map f xs) a, each_unflat_map P f xs (each_right P (f x) (flat_map f xs) a))

pub each_filter : {X : Type 0} (P : X → Type 0) (p : X → Bool) (xs : List X) → Each P xs → Each P (filter p xs)
each_filter P p [] a = tt
each_filter P p (x ∷ xs) (h, a) = go (p x) (each_filter P p xs a)
  where
    go : (b : Bool) → Each P (filter p xs) → Each P (cond b (x ∷ filter p xs) (filter p xs))
    go true rest = (h, rest)
    go false rest = rest

pub each_filtered : {X : Type 0} (p : X → Bool) (xs : List X) → Each (λ x. p x ≡ true) (filter p xs)
each_filtered p [] = tt
each_filtered p (x ∷ xs) = go (p x) refl (each_filtered p xs)
  where
    go : (b : Bool) → p x ≡ b → Each (λ x. p x ≡ true) (filter p xs) → Each (λ x. p x ≡ true) (cond b (x ∷ filter p xs) (filter p xs))
    go true e rest = (e, rest)
    go false e rest = rest

-- An element

pub each_in : {X : Type 0} (P : X → Type 0) (x : X) (xs : List X) → Each P xs → IsIn x xs → P x
each_in P x [] a i = elim i [ ]
each_in P x (y ∷ ys) (p, a) (inl e) = subst P e p
each_in P x (y ∷ ys) (p, a) (inr i) = each_in P x ys a i

pub each_from : {X : Type 0} (P : X → Type 0) (xs : List X) → ((x : X) → IsIn x xs → P x) → Each P xs
each_from P [] f = tt
each_from P (x ∷ xs) f = (f x (inl refl), each_from P xs (λ y i. f y (inr i)))

-- if no x is an element of a list, the list is `[]`
pub none_in : {X : Type 0} (xs : List X) → ((x : X) → IsIn x xs → ⊥) → xs ≡ []
none_in [] f = refl
none_in (x ∷ xs) f = absurd (f x (inl refl))

pub in_left : {X : Type 0} (x : X) (xs ys : List X) → IsIn x xs → IsIn x (xs ++ ys)
in_left x [] ys i = elim i [ ]
in_left x (z ∷ xs) ys (inl e) = inl e
in_left x (z ∷ xs) ys (inr i) = inr (in_left x xs ys i)

pub in_right : {X : Type 0} (x : X) (xs ys : List X) → IsIn x ys → IsIn x (xs ++ ys)
in_right x [] ys i = i
in_right x (z ∷ xs) ys i = inr (in_right x xs ys i)

pub in_map : {X Y : Type 0} (f : X → Y) (x : X) (xs : List X) → IsIn x xs → IsIn (f x) (map f xs)
in_map f x [] i = elim i [ ]
in_map f x (z ∷ xs) (inl e) = inl (ap f e)
in_map f x (z ∷ xs) (inr i) = inr (in_map f x xs i)

pub map_in : {X Y : Type 0} (f : X → Y) (y : Y) (xs : List X) → IsIn y (map f xs) → (x : X) × IsIn x xs × (f x ≡ y)
map_in f y [] i = elim i [ ]
map_in f y (x ∷ xs) (inl e) = (x, inl refl, e)
map_in {X} f y (x ∷ xs) (inr i) = let t : (z : X) × IsIn z xs × (f z ≡ y) = map_in f y xs i in (t.0, inr t.1, t.2)

pub filter_in : {X : Type 0} (p : X → Bool) (x : X) (xs : List X) → IsIn x (filter p xs) → IsIn x xs × (p x ≡ true)
filter_in p x [] i = elim i [ ]
filter_in {X} p x (y ∷ ys) i = go (p y) refl i (filter_in p x ys)
  where
    go : (b : Bool) → p y ≡ b → IsIn x (cond b (y ∷ filter p ys) (filter p ys)) → (IsIn x (filter p ys) → IsIn x ys × (p x ≡ true)) → IsIn x (y ∷ ys) × (p x ≡ true)
    go true e (inl same) ih = (inl same, subst (λ z. p z ≡ true) same e)
    go true e (inr j) ih = (inr (ih j).0, (ih j).1)
    go false e j ih = (inr (ih j).0, (ih j).1)

pub in_filter : {X : Type 0} (p : X → Bool) (x : X) (xs : List X) → IsIn x xs → p x ≡ true → IsIn x (filter p xs)
in_filter p x [] i e = elim i [ ]
in_filter {X} p x (y ∷ ys) i e = go (p y) refl i (λ j. in_filter p x ys j e)
  where
    go : (b : Bool) → p y ≡ b → IsIn x (y ∷ ys) → (IsIn x ys → IsIn x (filter p ys)) → IsIn x (cond b (y ∷ filter p ys) (filter p ys))
    go true is (inl same) ih = inl same
    go true is (inr j) ih = inr (ih j)
    go false is (inl same) ih = absurd (false≢true (sym is ∙ (ap p same ∙ e)))
    go false is (inr j) ih = ih j

pub find_in : {X : Type 0} (p : X → Bool) (x : X) (xs : List X) → find p xs ≡ Some x → IsIn x xs × (p x ≡ true)
find_in p x [] e = absurd (cc)
find_in {X} p x (y ∷ ys) e = go (p y) refl e (find_in p x ys)
  where
    go : (b : Bool) → p y ≡ b → cond b (Some y) (find p ys) ≡ Some x → (find p ys ≡ Some x → IsIn x ys × (p x ≡ true)) → IsIn x (y ∷ ys) × (p x ≡ true)
    go true is e ih = let same : y ≡ x = cc in (inl same, subst (λ z. p z ≡ true) same is)
    go false is e ih = (inr (ih e).0, (ih e).1)

-- Any element

pub any_map : {X Y : Type 0} (p : Y → Bool) (f : X → Y) (xs : List X) → list_any p (map f xs) ≡ list_any (λ x. p (f x)) xs
any_map p f [] = refl
any_map p f (x ∷ xs) = ap (λ b. p (f x) || b) (any_map p f xs)

pub any_flat_map : {X Y : Type 0} (p : Y → Bool) (f : X → List Y) (xs : List X) → list_any p (flat_map f xs) ≡ list_any (λ x. list_any p (f x)) xs
any_flat_map p f [] = refl
any_flat_map p f (x ∷ xs) = any_append p (f x) (flat_map f xs) ∙ ap (λ b. list_any p (f x) || b) (any_flat_map p f xs)

pub any_none : {X : Type 0} (p : X → Bool) (xs : List X) → Each (λ x. p x ≡ false) xs → list_any p xs ≡ false
any_none p [] a = refl
any_none p (x ∷ xs) (e, a) = ap (λ b. b || list_any p xs) e ∙ any_none p xs a

pub none_any : {X : Type 0} (p : X → Bool) (xs : List X) → list_any p xs ≡ false → Each (λ x. p x ≡ false) xs
none_any p [] e = tt
none_any p (x ∷ xs) e = ((or_parts (p x) (list_any p xs) e).0, none_any p xs (or_parts (p x) (list_any p xs) e).1)

-- if `find` returns None, no element passes the test
pub any_unfound : {X : Type 0} (p : X → Bool) (xs : List X) → find p xs ≡ None → list_any p xs ≡ false
any_unfound p [] e = refl
any_unfound {X} p (x ∷ xs) e = go (p x) e (any_unfound p xs)
  where
    go : (b : Bool) → cond b (Some x) (find p xs) ≡ None → (find p xs ≡ None → list_any p xs ≡ false) → (b || list_any p xs) ≡ false
    go true e rest = absurd (cc)
    go false e rest = rest e

pub some_any : {X : Type 0} (p : X → Bool) (xs : List X) → list_any p xs ≡ true → (x : X) × IsIn x xs × (p x ≡ true)
some_any p [] e = absurd (false≢true e)
some_any {X} p (x ∷ xs) e = go (p x) refl e (some_any p xs)
  where
    go : (b : Bool) → p x ≡ b → (b || list_any p xs) ≡ true → (list_any p xs ≡ true → (y : X) × IsIn y xs × (p y ≡ true)) → (y : X) × IsIn y (x ∷ xs) × (p y ≡ true)
    go true is e ih = (x, inl refl, is)
    go false is e ih = let i : (y : X) × IsIn y xs × (p y ≡ true) = ih e in (i.0, inr i.1, i.2)

pub any_in : {X : Type 0} (p : X → Bool) (x : X) (xs : List X) → IsIn x xs → p x ≡ true → list_any p xs ≡ true
any_in p x [] i is = elim i [ ]
any_in p x (y ∷ ys) (inl e) is = or_left (p y) (list_any p ys) (ap p e ∙ is)
any_in p x (y ∷ ys) (inr i) is = or_right (p y) (list_any p ys) (any_in p x ys i is)

-- some element passes p if and only if some element that passes q passes p, or some element that fails q passes p
pub any_split : {X : Type 0} (p q : X → Bool) (xs : List X) → list_any p xs ≡ (list_any p (filter q xs) || list_any p (filter (λ x. not (q x)) xs))
any_split p q [] = refl
any_split p q (x ∷ xs) = go (q x) (any_split p q xs)
  where
    go : (b : Bool) → list_any p xs ≡ (list_any p (filter q xs) || list_any p (filter (λ x. not (q x)) xs))
        → (p x || list_any p xs) ≡ (list_any p (cond b (x ∷ filter q xs) (filter q xs)) || list_any p (cond (not b) (x ∷ filter (λ x. not (q x)) xs) (filter (λ x. not (q x)) xs)))
    go true e = or_first (p x) _ _ _ e
    go false e = or_second (p x) _ _ _ e

-- Lists that rise

pub rises_more : (n k : ℕ) (xs : List ℕ) → k ≤ n → RisesFrom n xs → RisesFrom k xs
rises_more n k [] le r = tt
rises_more n k (x ∷ xs) le (l, r) = (omega arith, r)

pub rises_above : {X : Type 0} (key : X → ℕ) (n : ℕ) (xs : List X) → RisesFrom n (map key xs) → Each (λ x. n ≤ key x) xs
rises_above key n [] r = tt
rises_above key n (x ∷ xs) (l, r) = (l, each_weaker (λ y. key x + 1 ≤ key y) (λ y. n ≤ key y) (λ y h. omega arith) xs (rises_above key (key x + 1) xs r))

pub key_above : {X : Type 0} (key : X → ℕ) (n : ℕ) (x : X) (xs : List X) → RisesFrom n (map key xs) → IsIn x xs → n ≤ key x
key_above key n x xs r i = each_in (λ y. n ≤ key y) x xs (rises_above key n xs r) i

-- in a list that rises by key, `find` finds each element by its key
pub in_found : {X : Type 0} (key : X → ℕ) (n : ℕ) (x : X) (xs : List X) → RisesFrom n (map key xs) → IsIn x xs → find (λ y. eqb (key y) (key x)) xs ≡ Some x
in_found key n x [] rises i = elim i [ ]
in_found key n x (y ∷ ys) (low, rises) (inl same) =
    ap (λ b. cond b (Some y) (find (λ z. eqb (key z) (key x)) ys)) (eq-eqb (key y) (key x) (ap key same)) ∙ ap (λ z. Some z) same
in_found key n x (y ∷ ys) (low, rises) (inr i) =
    let above : key y + 1 ≤ key x = key_above key (key y + 1) x ys rises i in
    ap (λ b. cond b (Some y) (find (λ z. eqb (key z) (key x)) ys)) (ne_eqb (key y) (key x) (λ same. absurd (omega arith))) ∙ in_found key (key y + 1) x ys rises i

-- the list is split at element x, and no other element has the key of x
pub record Found {X : Type 0} (key : X → ℕ) (x : X) (xs : List X) : Type 0 where
  pub before : List X
  pub later : List X
  pub is : xs ≡ before ++ x ∷ later
  pub others_before : Each (λ y. eqb (key y) (key x) ≡ false) before
  pub others_later : Each (λ y. eqb (key y) (key x) ≡ false) later

pub found : {X : Type 0} (key : X → ℕ) (n : ℕ) (x : X) (xs : List X) → RisesFrom n (map key xs) → IsIn x xs → Found key x xs
found key n x [] r i = elim i [ ]
found key n x (y ∷ ys) (l, r) (inl e) = record {
  before = [];
  later = ys;
  is = ap (λ z. z ∷ ys) e;
  others_before = tt;
  others_later = each_weaker (λ z. key y + 1 ≤ key z) (λ z. eqb (key z) (key x) ≡ false) (λ z h. ne_eqb (key z) (key x) (λ same. let k : key y ≡ key x = ap key e in absurd (omega arith))) ys (rises_above key (key y + 1) ys r);
}
found key n x (y ∷ ys) (l, r) (inr i) =
    let f : Found key x ys = found key (key y + 1) x ys r i in
    let above : key y + 1 ≤ key x = each_in (λ z. key y + 1 ≤ key z) x ys (rises_above key (key y + 1) ys r) i in
    record {
      before = y ∷ f.before;
      later = f.later;
      is = ap (λ zs. y ∷ zs) f.is;
      others_before = (ne_eqb (key y) (key x) (λ same. absurd (omega arith)), f.others_before);
      others_later = f.others_later;
    }

map_others : {X : Type 0} (key : X → ℕ) (n : ℕ) (y : X) (xs : List X) → Each (λ z. eqb (key z) n ≡ false) xs → map (λ z. if eqb (key z) n then y else z) xs ≡ xs
map_others key n y [] a = refl
map_others key n y (x ∷ xs) (e, a) = ap (λ b. (if b then y else x) ∷ map (λ z. if eqb (key z) n then y else z) xs) e ∙ ap (λ zs. x ∷ zs) (map_others key n y xs a)

-- if n is the key of x and every element with key n is replaced by y, only x is replaced
pub found_replaced : {X : Type 0} (key : X → ℕ) (x : X) (xs : List X) (f : Found key x xs) (y : X) (n : ℕ) → n ≡ key x
    → map (λ z. if eqb (key z) n then y else z) xs ≡ f.before ++ y ∷ f.later
found_replaced {X} key x xs f y n e =
    ap (λ zs. map (λ z. if eqb (key z) n then y else z) zs) f.is
    ∙ (parts f.before f.others_before
    ∙ ap (λ zs. f.before ++ zs) (ap (λ b. (if b then y else x) ∷ map (λ z. if eqb (key z) n then y else z) f.later) (eq-eqb (key x) n (sym e))
    ∙ ap (λ zs. y ∷ zs) (map_others key n y f.later (subst (λ k. Each (λ z. eqb (key z) k ≡ false) f.later) (sym e) f.others_later))))
  where
    parts : (bs : List X) → Each (λ z. eqb (key z) (key x) ≡ false) bs
        → map (λ z. if eqb (key z) n then y else z) (bs ++ x ∷ f.later) ≡ bs ++ map (λ z. if eqb (key z) n then y else z) (x ∷ f.later)
    parts bs a = map-append (λ z. if eqb (key z) n then y else z) bs (x ∷ f.later)
        ∙ ap (λ zs. zs ++ map (λ z. if eqb (key z) n then y else z) (x ∷ f.later)) (map_others key n y bs (subst (λ k. Each (λ z. eqb (key z) k ≡ false) bs) (sym e) a))

-- the elements before x and after x in the list that `put_rising` returns
pub record PutIn {X : Type 0} (key : X → ℕ) (x : X) (xs : List X) : Type 0 where
  pub before : List X
  pub later : List X
  pub was : xs ≡ before ++ later
  pub is : put_rising key x xs ≡ before ++ x ∷ later

pub put_in : {X : Type 0} (key : X → ℕ) (x : X) (xs : List X) → PutIn key x xs
put_in key x [] = record { before = []; later = []; was = refl; is = refl }
put_in {X} key x (y ∷ ys) = go (ltb (key x) (key y)) refl (put_in key x ys)
  where
    go : (b : Bool) → ltb (key x) (key y) ≡ b → PutIn key x ys → PutIn key x (y ∷ ys)
    go true e p = record { before = []; later = y ∷ ys; was = refl; is = ap (λ b. if b then x ∷ (y ∷ ys) else y ∷ put_rising key x ys) e }
    go false e p = record {
      before = y ∷ p.before;
      later = p.later;
      was = ap (λ zs. y ∷ zs) p.was;
      is = ap (λ b. if b then x ∷ (y ∷ ys) else y ∷ put_rising key x ys) e ∙ ap (λ zs. y ∷ zs) p.is;
    }

-- an element of the list that `put_rising` returns is x or an element of the old list
pub in_put : {X : Type 0} (key : X → ℕ) (x y : X) (ys : List X) → IsIn y (put_rising key x ys) → (x ≡ y) ⊎ IsIn y ys
in_put key x y [] i = i
in_put {X} key x y (z ∷ zs) i = go (ltb (key x) (key z)) i (in_put key x y zs)
  where
    go : (b : Bool) → IsIn y (if b then x ∷ (z ∷ zs) else z ∷ put_rising key x zs) → (IsIn y (put_rising key x zs) → (x ≡ y) ⊎ IsIn y zs) → (x ≡ y) ⊎ IsIn y (z ∷ zs)
    go true i more = i
    go false (inl e) more = inr (inl e)
    go false (inr i) more = elim (more i) [ inl e ↦ inl e | inr j ↦ inr (inr j) ]

pub put_has : {X : Type 0} (key : X → ℕ) (x y : X) (ys : List X) → (x ≡ y) ⊎ IsIn y ys → IsIn y (put_rising key x ys)
put_has key x y [] i = i
put_has {X} key x y (z ∷ zs) i = go (ltb (key x) (key z)) (put_has key x y zs) i
  where
    go : (b : Bool) → ((x ≡ y) ⊎ IsIn y zs → IsIn y (put_rising key x zs)) → (x ≡ y) ⊎ IsIn y (z ∷ zs) → IsIn y (if b then x ∷ (z ∷ zs) else z ∷ put_rising key x zs)
    go true more i = i
    go false more (inl e) = inr (more (inl e))
    go false more (inr (inl e)) = inl e
    go false more (inr (inr i)) = inr (more (inr i))

-- if an element of a list passes the test, an element of the list with x inserted passes the test too
pub any_with : {X : Type 0} (p : X → Bool) (key : X → ℕ) (x : X) (xs : List X) → list_any p xs ≡ true → list_any p (put_rising key x xs) ≡ true
any_with p key x xs e = let s = some_any p xs e in any_in p s.0 (put_rising key x xs) (put_has key x s.0 xs (inr s.1)) s.2

-- if a list rises and no element has the key of x, the list with x inserted rises too
pub put_rises : {X : Type 0} (key : X → ℕ) (n : ℕ) (x : X) (xs : List X) → RisesFrom n (map key xs) → n ≤ key x → Each (λ y. key y ≢ key x) xs
    → RisesFrom n (map key (put_rising key x xs))
put_rises key n x [] r le a = (le, tt)
put_rises {X} key n x (y ∷ ys) (l, r) le (ne, a) = go (ltb (key x) (key y)) refl (λ above. put_rises key (key y + 1) x ys r above a)
  where
    go : (b : Bool) → ltb (key x) (key y) ≡ b → (key y + 1 ≤ key x → RisesFrom (key y + 1) (map key (put_rising key x ys)))
        → RisesFrom n (map key (if b then x ∷ (y ∷ ys) else y ∷ put_rising key x ys))
    go true e ih = let lt : key x < key y = ltb-true (key x) (key y) e in (le, (omega arith, r))
    go false e ih = let ge : key y ≤ key x = ltb-false (key x) (key y) e in (l, ih (omega arith))

pub filter_rises : {X : Type 0} (key : X → ℕ) (p : X → Bool) (n : ℕ) (xs : List X) → RisesFrom n (map key xs) → RisesFrom n (map key (filter p xs))
filter_rises key p n [] r = tt
filter_rises {X} key p n (x ∷ xs) (l, r) = go (p x) (filter_rises key p (key x + 1) xs r)
  where
    go : (b : Bool) → RisesFrom (key x + 1) (map key (filter p xs)) → RisesFrom n (map key (cond b (x ∷ filter p xs) (filter p xs)))
    go true rest = (l, rest)
    go false rest = rises_more (key x + 1) n (map key (filter p xs)) (omega arith) rest

-- `least_missing n xs` is at least n, and it is not in xs if xs rises from n
pub least_above : (n : ℕ) (xs : List ℕ) → n ≤ least_missing n xs
least_above n [] = omega arith
least_above n (x ∷ xs) = go (eqb x n) (least_above (n + 1) xs)
  where
    go : (b : Bool) → n + 1 ≤ least_missing (n + 1) xs → n ≤ (if b then least_missing (n + 1) xs else n)
    go true le = omega arith
    go false le = omega arith

pub least_is_missing : (n : ℕ) (xs : List ℕ) → RisesFrom n xs → Each (λ x. x ≢ least_missing n xs) xs
least_is_missing n [] r = tt
least_is_missing n (x ∷ xs) (l, r) = go (eqb x n) refl (λ rises. least_is_missing (n + 1) xs rises) (least_above (n + 1) xs)
  where
    go : (b : Bool) → eqb x n ≡ b → (RisesFrom (n + 1) xs → Each (λ y. y ≢ least_missing (n + 1) xs) xs) → n + 1 ≤ least_missing (n + 1) xs
        → Each (λ y. y ≢ (if b then least_missing (n + 1) xs else n)) (x ∷ xs)
    go true e ih above = let same : x ≡ n = eqb-true x n e in (λ is. absurd (omega arith), ih (subst (λ k. RisesFrom (k + 1) xs) same r))
    go false e ih above = (eqb-false x n e, each_weaker (λ y. x + 1 ≤ y) (λ y. y ≢ n) (λ y h is. absurd (omega arith)) xs (rises_above (λ y. y) (x + 1) xs (subst (λ ys. RisesFrom (x + 1) ys) (sym (map-id xs)) r)))

-- Lists in a list

pub in_append : {X : Type 0} (x : X) (xs ys : List X) → IsIn x (xs ++ ys) → IsIn x xs ⊎ IsIn x ys
in_append x [] ys i = inr i
in_append x (z ∷ xs) ys (inl e) = inl (inl e)
in_append x (z ∷ xs) ys (inr i) = elim (in_append x xs ys i) [ inl j ↦ inl (inr j) | inr j ↦ inr j ]

pub flat_map_in : {X Y : Type 0} (g : X → List Y) (z : Y) (xs : List X) → IsIn z (flat_map g xs) → (x : X) × IsIn x xs × IsIn z (g x)
flat_map_in g z [] i = elim i [ ]
flat_map_in {X} g z (x ∷ xs) i = elim (in_append z (g x) (flat_map g xs) i) [
  | inl j ↦ (x, inl refl, j)
  | inr j ↦ let there : (y : X) × IsIn y xs × IsIn z (g y) = flat_map_in g z xs j in (there.0, inr there.1, there.2)
]

pub in_flat_map : {X Y : Type 0} (g : X → List Y) (z : Y) (x : X) (xs : List X) → IsIn x xs → IsIn z (g x) → IsIn z (flat_map g xs)
in_flat_map g z x [] i j = elim i [ ]
in_flat_map g z x (y ∷ ys) (inl same) j = in_left z (g y) (flat_map g ys) (subst (λ w. IsIn z (g w)) (sym same) j)
in_flat_map g z x (y ∷ ys) (inr i) j = in_right z (g y) (flat_map g ys) (in_flat_map g z x ys i j)

-- Options, and copies of one element

pub none_of : {X : Type 0} (o : Option X) → is_some o ≡ false → o ≡ None
none_of None e = refl
none_of (Some x) e = absurd (false≢true (sym e))

pub some_of : {X : Type 0} (o : Option X) → is_some o ≡ true → (x : X) × (o ≡ Some x)
some_of None e = absurd (false≢true e)
some_of (Some x) e = (x, refl)

pub everywhere : {X : Type 0} (x : X) (n i : ℕ) → get_or (replicate n x) i x ≡ x
everywhere x zero i = refl
everywhere x (suc n) zero = refl
everywhere x (suc n) (suc i) = everywhere x n i
