-- Lookups by key in a list after elements are replaced, changed, inserted or removed.
use Rattle.std.proofs.Common.{◌≡◌, ◌≢◌, ℕ, Bool, true, false, not, cond, eqb, ltb, List, [], ◌∷◌, map, Some, None, refl, sym, ap, ◌∙◌, ⊎_elim}
use Rattle.std.specs.Prelude.{find, filter, Option, option_map}
use Rattle.std.proofs.lemmas.Bool.{false≢true, eqb-true, eq-eqb, ne_eqb, cases_eq}
use Rattle.model_core.specs.Machine.{put_rising}
use Rattle.model_core.proofs.Lists.{find_in}
pub use Rattle.model_core.proofs.Lists.{in_found}

pub some_none : {A : Type 0} {x : A} → Some x ≡ None → ⊥
some_none {A} {x} e = cc

pub some_same : {A : Type 0} {x y : A} → Some x ≡ Some y → x ≡ y
some_same {A} {x} {y} e = cc

-- applying a function to a conditional is the same as applying it to both branches
pub through : {A B : Type 0} (f : A → B) (v : Bool) (x y : A) → f (cond v x y) ≡ cond v (f x) (f y)
through f true x y = refl
through f false x y = refl

-- if a mapped option has the value y, the option has a value that maps to y
pub mapped_from : {A B : Type 0} (f : A → B) (o : Option A) (y : B) → option_map f o ≡ Some y → (x : A) × (o ≡ Some x) × (f x ≡ y)
mapped_from f None y e = absurd (some_none (sym e))
mapped_from f (Some x) y e = (x, refl, some_same e)

pub eq_turned : (a b : ℕ) → eqb a b ≡ eqb b a
eq_turned a b =
    ⊎_elim (λ e. eq-eqb a b e ∙ sym (eq-eqb b a (sym e))) (λ differ. ne_eqb a b differ ∙ sym (ne_eqb b a (λ e. differ (sym e)))) (cases_eq a b)

module _ {X : Type 0} (key : X → ℕ) where
  -- the first element with key n, or None
  abbrev pub at : ℕ → List X → Option X
  at n xs = find (λ x. eqb (key x) n) xs

  -- the list in which `new` replaces each element that has its key
  abbrev pub replaced : X → List X → List X
  replaced new xs = map (λ x. cond (eqb (key x) (key new)) new x) xs

  -- an element that a lookup finds has the key of the lookup
  pub found_key : (n : ℕ) (xs : List X) (x : X) → at n xs ≡ Some x → key x ≡ n
  found_key n xs x e = eqb-true (key x) n (find_in (λ y. eqb (key y) n) x xs e).1

  -- a lookup finds the head of a list if the head has the key
  pub at_here : (n : ℕ) (x : X) (xs : List X) → key x ≡ n → at n (x ∷ xs) ≡ Some x
  at_here n x xs e = ap (λ b. cond b (Some x) (at n xs)) (eq-eqb (key x) n e)

  pub at_past : (n : ℕ) (x : X) (xs : List X) → key x ≢ n → at n (x ∷ xs) ≡ at n xs
  at_past n x xs differ = ap (λ b. cond b (Some x) (at n xs)) (ne_eqb (key x) n differ)

  same_key : (new x : X) (b : Bool) → eqb (key x) (key new) ≡ b → key (cond b new x) ≡ key x
  same_key new x true is = sym (eqb-true (key x) (key new) is)
  same_key new x false is = refl

  -- a replacement does not change the keys of the list
  pub keys_replaced : (new : X) (xs : List X) → map key (replaced new xs) ≡ map key xs
  keys_replaced new [] = refl
  keys_replaced new (x ∷ xs) =
      ap (λ k. k ∷ map key (replaced new xs)) (same_key new x (eqb (key x) (key new)) refl) ∙ ap (λ ks. key x ∷ ks) (keys_replaced new xs)

  -- after a replacement, a lookup of the key of `new` finds `new`, if the list had an element with this key
  pub found_new : (new old : X) (xs : List X) → at (key new) xs ≡ Some old → at (key new) (replaced new xs) ≡ Some new
  found_new new old [] e = absurd (some_none (sym e))
  found_new new old (x ∷ xs) e = go (eqb (key x) (key new)) refl e (found_new new old xs)
    where
      go : (b : Bool) → eqb (key x) (key new) ≡ b → cond b (Some x) (at (key new) xs) ≡ Some old
          → (at (key new) xs ≡ Some old → at (key new) (replaced new xs) ≡ Some new)
          → at (key new) (cond b new x ∷ replaced new xs) ≡ Some new
      go true is _ _ = at_here (key new) new (replaced new xs) refl
      go false is e more = at_past (key new) x (replaced new xs) (λ same. false≢true (sym is ∙ eq-eqb (key x) (key new) same)) ∙ more e

  -- after a replacement, a lookup of any other key finds the same as before
  pub found_other : (new : X) (n : ℕ) (xs : List X) → n ≢ key new → at n (replaced new xs) ≡ at n xs
  found_other new n [] differ = refl
  found_other new n (x ∷ xs) differ = go (eqb (key x) (key new)) refl (found_other new n xs differ)
    where
      go : (b : Bool) → eqb (key x) (key new) ≡ b → at n (replaced new xs) ≡ at n xs
          → at n (cond b new x ∷ replaced new xs) ≡ at n (x ∷ xs)
      go true is more =
          at_past n new (replaced new xs) (λ same. differ (sym same)) ∙ more
          ∙ sym (at_past n x xs (λ same. differ (sym same ∙ eqb-true (key x) (key new) is)))
      go false is more = ap (λ o. cond (eqb (key x) n) (Some x) o) more

  -- if a change of the elements keeps their keys, a lookup finds the same element as before, but changed
  pub found_mapped : (g : X → X) (n : ℕ) (xs : List X) → ((x : X) → key (g x) ≡ key x) → at n (map g xs) ≡ option_map g (at n xs)
  found_mapped g n [] same = refl
  found_mapped g n (x ∷ xs) same =
      ap (λ k. cond (eqb k n) (Some (g x)) (at n (map g xs))) (same x) ∙ go (eqb (key x) n) (found_mapped g n xs same)
    where
      go : (b : Bool) → at n (map g xs) ≡ option_map g (at n xs)
          → cond b (Some (g x)) (at n (map g xs)) ≡ option_map g (cond b (Some x) (at n xs))
      go true more = refl
      go false more = more

  pub keys_mapped : (g : X → X) (xs : List X) → ((x : X) → key (g x) ≡ key x) → map key (map g xs) ≡ map key xs
  keys_mapped g [] same = refl
  keys_mapped g (x ∷ xs) same = ap (λ k. k ∷ map key (map g xs)) (same x) ∙ ap (λ ks. key x ∷ ks) (keys_mapped g xs same)

  none_either : (b : Bool) → at 0 [] ≡ cond b None (at 0 [])
  none_either true = refl
  none_either false = refl

  -- after the elements with some keys are removed, a lookup of one of these keys finds nothing, and other lookups are unchanged
  pub found_kept : (gone : ℕ → Bool) (n : ℕ) (xs : List X) → at n (filter (λ x. not (gone (key x))) xs) ≡ cond (gone n) None (at n xs)
  found_kept gone n [] = none_either (gone n)
  found_kept gone n (x ∷ xs) = ⊎_elim (here (found_kept gone n xs)) (elsewhere (found_kept gone n xs)) (cases_eq (key x) n)
    where
      rest : List X
      rest = filter (λ y. not (gone (key y))) xs

      kept : (b : Bool) → gone n ≡ b → at n rest ≡ cond b None (at n xs) → key x ≡ n
          → at n (cond (not b) (x ∷ rest) rest) ≡ cond b None (at n (x ∷ xs))
      kept true is more same = more
      kept false is more same = at_here n x rest same ∙ sym (at_here n x xs same)

      here : at n rest ≡ cond (gone n) None (at n xs) → key x ≡ n
          → at n (filter (λ y. not (gone (key y))) (x ∷ xs)) ≡ cond (gone n) None (at n (x ∷ xs))
      here more same = ap (λ k. at n (cond (not (gone k)) (x ∷ rest) rest)) same ∙ kept (gone n) refl more same

      past : (b : Bool) → key x ≢ n → at n (cond b (x ∷ rest) rest) ≡ at n rest
      past true differ = at_past n x rest differ
      past false differ = refl

      elsewhere : at n rest ≡ cond (gone n) None (at n xs) → key x ≢ n
          → at n (filter (λ y. not (gone (key y))) (x ∷ xs)) ≡ cond (gone n) None (at n (x ∷ xs))
      elsewhere more differ = past (not (gone (key x))) differ ∙ more ∙ ap (λ o. cond (gone n) None o) (sym (at_past n x xs differ))

  differ_from : (new x : X) (xs : List X) → at (key new) (x ∷ xs) ≡ None → key x ≢ key new
  differ_from new x xs absent same = some_none (sym (at_here (key new) x xs same) ∙ absent)

  -- after an element is inserted under a new key, a lookup of this key finds it, and other lookups are unchanged
  pub found_put : (new : X) (n : ℕ) (xs : List X) → at (key new) xs ≡ None → at n (put_rising key new xs) ≡ cond (eqb (key new) n) (Some new) (at n xs)
  found_put new n [] absent = refl
  found_put new n (x ∷ xs) absent =
      go (ltb (key new) (key x)) (found_put new n xs (sym (at_past (key new) x xs (differ_from new x xs absent)) ∙ absent))
    where
      swap : (a b : Bool) → (a ≡ true → b ≡ true → ⊥) → cond a (Some x) (cond b (Some new) (at n xs)) ≡ cond b (Some new) (cond a (Some x) (at n xs))
      swap true true apart = absurd (apart refl refl)
      swap true false apart = refl
      swap false true apart = refl
      swap false false apart = refl

      go : (b : Bool) → at n (put_rising key new xs) ≡ cond (eqb (key new) n) (Some new) (at n xs)
          → at n (cond b (new ∷ (x ∷ xs)) (x ∷ put_rising key new xs)) ≡ cond (eqb (key new) n) (Some new) (at n (x ∷ xs))
      go true _ = refl
      go false more =
          ap (λ o. cond (eqb (key x) n) (Some x) o) more
          ∙ swap (eqb (key x) n) (eqb (key new) n)
          (λ a b. differ_from new x xs absent (eqb-true (key x) n a ∙ sym (eqb-true (key new) n b)))
