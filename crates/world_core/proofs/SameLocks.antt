-- If two lists have the same locks, the first call of one list stands in the other list behind calls with which it shares no lock.
use Rattle.std.proofs.Common.{◌≡◌, Bool, true, false, List, [], ◌∷◌, ◌++◌, cond, refl, ap, sym, subst, ◌∙◌}
use Rattle.std.specs.Prelude.{filter}
use Rattle.std.specs.List.{AllByRecursion}
use Rattle.std.proofs.lemmas.List.Elements.{filter-append}
use Rattle.world_core.specs.Locks.{Lock, ShareNoLock, HaveSameLocks}

heads : {A : Type 0} {x y : A} {xs ys : List A} → x ∷ xs ≡ y ∷ ys → x ≡ y
heads e = cc

tails : {A : Type 0} {x y : A} {xs ys : List A} → x ∷ xs ≡ y ∷ ys → xs ≡ ys
tails e = cc

pub not_empty : {A : Type 0} (x : A) (xs : List A) → x ∷ xs ≡ [] → ⊥
not_empty x xs e = cc

pub filter-pass : {A : Type 0} (p : A → Bool) (x : A) (xs : List A) → p x ≡ true → filter p (x ∷ xs) ≡ x ∷ filter p xs
filter-pass p x xs is = ap (λ b. cond b (x ∷ filter p xs) (filter p xs)) is

pub filter-skip : {A : Type 0} (p : A → Bool) (x : A) (xs : List A) → p x ≡ false → filter p (x ∷ xs) ≡ filter p xs
filter-skip p x xs is = ap (λ b. cond b (x ∷ filter p xs) (filter p xs)) is

-- if nothing of a list passes the test, its first element does not, and nothing of the rest
pub none_first : {A : Type 0} (p : A → Bool) (x : A) (xs : List A) → filter p (x ∷ xs) ≡ [] → p x ≡ false
none_first p x xs none = go (p x) refl
  where
    go : (b : Bool) → p x ≡ b → p x ≡ false
    go true is = absurd (not_empty x (filter p xs) (sym (filter-pass p x xs is) ∙ none))
    go false is = is

pub none_left : {A : Type 0} (p : A → Bool) (x : A) (xs : List A) → filter p (x ∷ xs) ≡ [] → filter p xs ≡ []
none_left p x xs none = sym (filter-skip p x xs (none_first p x xs none)) ∙ none

-- the list is `pre`, of which nothing passes the test, then x, then `post`
record Found {A : Type 0} (p : A → Bool) (x : A) (xs : List A) : Type 0 where
  pre : List A
  post : List A
  is : xs ≡ pre ++ x ∷ post
  none : filter p pre ≡ []

-- the first element that passes the test
found : {A : Type 0} (p : A → Bool) (x : A) (rest xs : List A) → filter p xs ≡ x ∷ rest → Found p x xs
found p x rest [] first = absurd (not_empty x rest (sym first))
found p x rest (y ∷ xs) first = go (p y) refl (found p x rest xs)
  where
    go : (b : Bool) → p y ≡ b → (filter p xs ≡ x ∷ rest → Found p x xs) → Found p x (y ∷ xs)
    go true is further = record { pre = []; post = xs; is = ap (λ z. z ∷ xs) (heads (sym (filter-pass p y xs is) ∙ first)); none = refl }
    go false is further =
        let later = further (sym (filter-skip p y xs is) ∙ first) in
        record { pre = y ∷ later.pre; post = later.post; is = ap (λ zs. y ∷ zs) later.is; none = filter-skip p y later.pre is ∙ later.none }

-- if x passes q, nothing of `pre` passes q, and the first that passes p is x, nothing of `pre` passes p
none_before : {A : Type 0} (p q : A → Bool) (x : A) (rest pre post : List A) → q x ≡ true → filter q pre ≡ []
    → filter p (pre ++ x ∷ post) ≡ x ∷ rest → filter p pre ≡ []
none_before p q x rest [] post here none first = refl
none_before p q x rest (y ∷ pre) post here none first =
    go (p y) refl (none_before p q x rest pre post here (none_left q y pre none))
  where
    go : (b : Bool) → p y ≡ b → (filter p (pre ++ x ∷ post) ≡ x ∷ rest → filter p pre ≡ []) → filter p (y ∷ pre) ≡ []
    go true is further =
        let same : y ≡ x = heads (sym (filter-pass p y (pre ++ x ∷ post) is) ∙ first) in
        let other : q y ≡ false = none_first q y pre none in
        let both : false ≡ true = sym other ∙ ap q same ∙ here in
        cc
    go false is further = filter-skip p y pre is ∙ further (sym (filter-skip p y (pre ++ x ∷ post) is) ∙ first)

-- without x, which is the first of both that passes the test, the same passes the test in both
without : {A : Type 0} (p : A → Bool) (x : A) (xs pre post : List A) → (p x ≡ true → filter p pre ≡ [])
    → filter p (x ∷ xs) ≡ filter p (pre ++ x ∷ post) → filter p xs ≡ filter p (pre ++ post)
without p x xs pre post none same = go (p x) refl
  where
    go : (b : Bool) → p x ≡ b → filter p xs ≡ filter p (pre ++ post)
    go true is =
        tails (sym (filter-pass p x xs is) ∙ same ∙ filter-append p pre (x ∷ post)
        ∙ ap (λ ys. ys ++ filter p (x ∷ post)) (none is) ∙ filter-pass p x post is)
        ∙ sym (filter-append p pre post ∙ ap (λ ys. ys ++ filter p post) (none is))
    go false is =
        sym (filter-skip p x xs is) ∙ same ∙ filter-append p pre (x ∷ post)
        ∙ ap (λ ys. filter p pre ++ ys) (filter-skip p x post is) ∙ sym (filter-append p pre post)

-- if no lock of a call is needed in a list, it shares no lock with the calls of this list
shares_none : {A : Type 0} (needs : Lock → A → Bool) (call : A) (calls : List A)
    → ((l : Lock) → needs l call ≡ true → filter (needs l) calls ≡ []) → AllByRecursion (ShareNoLock needs call) calls
shares_none needs call [] none = tt
shares_none needs call (x ∷ calls) none = (
  λ l here there. not_empty x (filter (needs l) calls) (sym (filter-pass (needs l) x calls there) ∙ none l here),
  shares_none needs call calls (λ l here. none_left (needs l) x calls (none l here)),
)

-- Two lists with the same locks are related if P relates empty lists, and P stays true when a call is put before the first list
-- and into the second, behind calls with which it shares no lock. Each call needs a lock.
pub in_any_order : {A : Type 0} (needs : Lock → A → Bool) (P : List A → List A → Type 0) → ((call : A) → (l : Lock) × (needs l call ≡ true))
    → P [] []
    → ((call : A) (calls pre post : List A) → AllByRecursion (ShareNoLock needs call) pre → P calls (pre ++ post) → P (call ∷ calls) (pre ++ call ∷ post))
    → (calls calls' : List A) → HaveSameLocks needs calls calls' → P calls calls'
in_any_order needs P needs_one none moved [] [] same = none
in_any_order needs P needs_one none moved [] (x ∷ calls') same =
    let (l, here) = needs_one x in
    absurd (not_empty x (filter (needs l) calls') (sym (filter-pass (needs l) x calls' here) ∙ sym (same l)))
in_any_order needs P needs_one none moved (call ∷ calls) calls' same =
    let (own, here) = needs_one call in
    let at = found (needs own) call (filter (needs own) calls) calls' (sym (same own) ∙ filter-pass (needs own) call calls here) in
    let same' : HaveSameLocks needs (call ∷ calls) (at.pre ++ call ∷ at.post) = subst (λ xs. HaveSameLocks needs (call ∷ calls) xs) at.is same in
    let free : (l : Lock) → needs l call ≡ true → filter (needs l) at.pre ≡ [] =
    λ l there. none_before (needs l) (needs own) call (filter (needs l) calls) at.pre at.post here at.none
    (sym (same' l) ∙ filter-pass (needs l) call calls there) in
    subst (P (call ∷ calls)) (sym at.is) (moved call calls at.pre at.post (shares_none needs call at.pre free)
    (in_any_order needs P needs_one none moved calls (at.pre ++ at.post)
    (λ l. without (needs l) call calls at.pre at.post (free l) (same' l))))
