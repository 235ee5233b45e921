-- A value that is made from the numbers that a form matches has the text of the form with these numbers. This text is read as the
-- value.
use Rattle.std.proofs.Common.{◌≡◌, ℕ, ◌^◌, ◌<◌, Bool, true, false, cond, List, [], ◌∷◌, ◌++◌, length, get_or, Option, Some, None, refl, sym, subst, ◌∙◌, ap, arith}
use Rattle.std.specs.List.{All}
use Rattle.std.proofs.lemmas.Bool.Decides.{nat_tests}
use Rattle.std.proofs.lemmas.List.Elements.{All-nil, All-cons}
use Rattle.std.proofs.lemmas.Option.{cond_some}
use Rattle.std.specs.Prelude.{nat_lt}
use Rattle.trace_check.specs.Forms.{◌>>=◌, form_at}
use Rattle.trace_check.specs.Replies.{made_at, ◌or_else◌}
use Rattle.trace_check.proofs.FormLoop.{marks}
use Rattle.trace_check.proofs.FormLemmas.{bind_some, form_text, is_form, form_takes, form_again}

abbrev if_fit : {A : Type 0} → (List ℕ → Bool) → (List ℕ → A) → List ℕ × List ℕ → Option (A × List ℕ)
if_fit fits make found = cond (fits found.0) (Some (make found.0, found.1)) None

-- if a value is made from a form at the front of a text, the text is the value's text and then the rest, and P holds for the
-- value
pub kind_takes : {A : Type 0} (form : List ℕ) (fits : List ℕ → Bool) (make : List ℕ → A) (spell : A → List ℕ) (P : A → Type 0)
    → ((ns : List ℕ) → length ns ≡ marks form → fits ns ≡ true → (spell (make ns) ≡ form_text form ns) × P (make ns))
    → (text : List ℕ) (x : A) (rest : List ℕ) → made_at form fits make text ≡ Some (x, rest) → (text ≡ spell x ++ rest) × P x
kind_takes form fits make spell P says text x rest e =
    let wanted : _ = (x, rest) in
    let (found, is, next) = bind_some (form_at form text) (if_fit fits make) wanted e in
    let made : _ = (make found.0, found.1) in
    let (fit, last) = cond_some (fits found.0) made wanted next in
    let (text_is, count) = form_takes form text found.0 found.1 is in
    let (spelled, known) = says found.0 count fit in
    (text_is ∙ ap (λ t. t ++ found.1) (sym spelled) ∙ (λ i. spell (last i).0 ++ (last i).1), subst P (λ i. (last i).0) known)

pub text_takes : {A : Type 0} (form : List ℕ) (fits : List ℕ → Bool) (make : List ℕ → A) (spell : A → List ℕ)
    → ((ns : List ℕ) → length ns ≡ marks form → fits ns ≡ true → spell (make ns) ≡ form_text form ns)
    → (text : List ℕ) (x : A) (rest : List ℕ) → made_at form fits make text ≡ Some (x, rest) → text ≡ spell x ++ rest
text_takes form fits make spell says text x rest e =
    (kind_takes form fits make spell (λ x. Unit {0}) (λ ns count fit. (says ns count fit, tt)) text x rest e).0

pub kind_again : {A : Type 0} (form : List ℕ) (fits : List ℕ → Bool) (make : List ℕ → A) (ns rest : List ℕ) → is_form form ≡ true
    → length ns ≡ marks form → All (λ n. n < 2 ^ 32) ns → fits ns ≡ true → made_at form fits make (form_text form ns ++ rest) ≡ Some (make ns, rest)
kind_again form fits make ns rest good count small fit =
    ap (λ found. found >>= if_fit fits make) (form_again form ns rest good count small) ∙ ap (λ test. cond test (Some (make ns, rest)) None) fit

-- ---- lists of few numbers

pub two : (ns : List ℕ) → length ns ≡ 2 → get_or ns 0 0 ∷ get_or ns 1 0 ∷ [] ≡ ns
two (a ∷ b ∷ []) count = refl
two [] count = absurd (omega (arith, count))
two (a ∷ []) count = absurd (omega (arith, count))
two (a ∷ b ∷ c ∷ ns) count = absurd (omega (arith, count))

pub three : (ns : List ℕ) → length ns ≡ 3 → get_or ns 0 0 ∷ get_or ns 1 0 ∷ get_or ns 2 0 ∷ [] ≡ ns
three [] count = absurd (omega (arith, count))
three (a ∷ ns) count = ap (λ more. a ∷ more) (two ns (omega (arith, count)))

pub five : (ns : List ℕ) → length ns ≡ 5 → get_or ns 0 0 ∷ get_or ns 1 0 ∷ get_or ns 2 0 ∷ get_or ns 3 0 ∷ get_or ns 4 0 ∷ [] ≡ ns
five [] count = absurd (omega (arith, count))
five (a ∷ []) count = absurd (omega (arith, count))
five (a ∷ b ∷ ns) count = ap (λ more. a ∷ b ∷ more) (three ns (omega (arith, count)))

pub small_one : (a : ℕ) → a < 2 ^ 32 → All (λ n. n < 2 ^ 32) (a ∷ [])
small_one a small = All-cons (λ n. n < 2 ^ 32) a [] small (All-nil (λ n. n < 2 ^ 32))

pub small_more : (a : ℕ) (ns : List ℕ) → a < 2 ^ 32 → All (λ n. n < 2 ^ 32) ns → All (λ n. n < 2 ^ 32) (a ∷ ns)
small_more a ns small others = All-cons (λ n. n < 2 ^ 32) a ns small others

pub below : (n most : ℕ) → n < most → nat_lt n most ≡ true
below n most lt = grind (arith, nat_tests)

-- ---- the first alternative that matches

pub either : {A P : Type 0} (first other : Option A) (x : A) → (first or_else other) ≡ Some x → (first ≡ Some x → P) → (other ≡ Some x → P) → P
either (Some y) other x e f g = f e
either None other x e f g = g e

pub first_is : {A : Type 0} (first other : Option A) (x : A) → first ≡ Some x → (first or_else other) ≡ Some x
first_is first other x is = ap (λ found. found or_else other) is

pub if_same : {A : Type 0} (test : Bool) (x : Option A) (y : A) → cond test x None ≡ Some y → (test ≡ true) × (x ≡ Some y)
if_same true x y e = (refl, e)
if_same false x y e = absurd cc
