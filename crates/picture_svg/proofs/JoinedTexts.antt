-- Texts that are written one after another.
use Rattle.std.proofs.Common.{◌≡◌, ℕ, zero, suc, ◌+◌, List, [], ◌++◌, Option, Result, Ok, Err, OnOk, flat_map, ap, refl, sym, ◌∙◌, append_assoc, append-nil, arith}
use Rattle.std.specs.List.{range_with_len}
use Rattle.std.specs.Prelude.{⊤}
use Rattle.std.proofs.KnownBytes.{Appends-kept, Appends-nil, Appends-trans}
use Rattle.std.specs.Io.KnownBytes.{Appends, Keeps}
use Rattle.picture_svg.specs.Texts.{AppendsText, WritesText}

-- if the empty text has property P, writing nothing appends a text with P
pub nothing : (a : Option (List ℕ)) (P : List ℕ → Type 0) → P [] → AppendsText a a P
nothing a P is = record { text = []; appended = Appends-nil a; is = is }

-- if `text` was appended, a text that is equal to `text` was appended
pub exactly : (a b : Option (List ℕ)) (text : List ℕ) → Appends a b text → AppendsText a b (λ x. x ≡ text)
exactly a b text h = record { text = text; appended = h; is = refl }

-- if a text equal to `front` was appended and then `text`, a text equal to `front ++ text` was appended
pub then_exactly : {a b : Option (List ℕ)} {front : List ℕ} (c : Option (List ℕ)) (text : List ℕ) → AppendsText a b (λ x. x ≡ front)
    → Appends b c text → AppendsText a c (λ x. x ≡ front ++ text)
then_exactly {a} {b} {front} c text first last = record {
  text = first.text ++ text;
  appended = Appends-trans a b c first.text text first.appended last;
  is = ap (λ x. x ++ text) first.is;
}

pub then_text : {a b c : Option (List ℕ)} {front back : List ℕ} → AppendsText a b (λ x. x ≡ front) → AppendsText b c (λ x. x ≡ back)
    → AppendsText a c (λ x. x ≡ front ++ back)
then_text {a} {b} {c} {front} {back} first last = record {
  text = first.text ++ last.text;
  appended = Appends-trans a b c first.text last.text first.appended last.appended;
  is = ap (λ x. x ++ last.text) first.is ∙ ap (λ x. front ++ x) last.is;
}

-- if a text equal to `text` was appended, and `text` is equal to `whole`, a text equal to `whole` was appended
pub renamed : {a b : Option (List ℕ)} {text : List ℕ} (whole : List ℕ) → text ≡ whole → AppendsText a b (λ x. x ≡ text) → AppendsText a b (λ x. x ≡ whole)
renamed whole e h = record { text = h.text; appended = h.appended; is = h.is ∙ e }

pub as_text : {a b : Option (List ℕ)} {text : List ℕ} (whole : List ℕ) → AppendsText a b (λ x. x ≡ text) → text ≡ whole → AppendsText a b (λ x. x ≡ whole)
as_text whole h e = renamed whole e h

-- if a text with property P was appended, some text was appended
pub whatever : {a b : Option (List ℕ)} {P : List ℕ → Type 0} → AppendsText a b P → AppendsText a b (λ _. ⊤)
whatever h = record { text = h.text; appended = h.appended; is = tt }

-- if a text with P was appended and then a text with Q, and R holds for the two texts joined, a text with R was appended
pub both : {a b c : Option (List ℕ)} {P Q : List ℕ → Type 0} (R : List ℕ → Type 0) → AppendsText a b P → AppendsText b c Q
    → ((x y : List ℕ) → P x → Q y → R (x ++ y)) → AppendsText a c R
both {a} {b} {c} R first second joined = record {
  text = first.text ++ second.text;
  appended = Appends-trans a b c first.text second.text first.appended second.appended;
  is = joined first.text second.text first.is second.is;
}

-- if a text with P was appended and then `text`, and R holds for the two texts joined, a text with R was appended
pub and_text : {a b : Option (List ℕ)} {P : List ℕ → Type 0} (c : Option (List ℕ)) (text : List ℕ) (R : List ℕ → Type 0) → AppendsText a b P
    → Appends b c text → ((x : List ℕ) → P x → R (x ++ text)) → AppendsText a c R
and_text {a} {b} c text R first last joined = record {
  text = first.text ++ text;
  appended = Appends-trans a b c first.text text first.appended last;
  is = joined first.text first.is;
}

-- if a text was appended and then `text`, some text was appended
pub more : {a b : Option (List ℕ)} {P : List ℕ → Type 0} (c : Option (List ℕ)) (text : List ℕ) → AppendsText a b P
    → Appends b c text → AppendsText a c (λ _. ⊤)
more c text first last = and_text c text (λ _. ⊤) first last (λ _ _. tt)

pub more_texts : {a b c : Option (List ℕ)} {P Q : List ℕ → Type 0} → AppendsText a b P → AppendsText b c Q → AppendsText a c (λ _. ⊤)
more_texts first last = both (λ _. ⊤) first last (λ _ _ _ _. tt)

-- ---- the last write, whose result is returned

pub only_text : {E : Type 0} (a c : Option (List ℕ)) (r : Result (Unit {0}) E) (text : List ℕ) (R : List ℕ → Type 0) → OnOk r (Appends a c text)
    → R text → WritesText r a c R
only_text a c (Ok x) text R last is = record { text = text; appended = last; is = is }
only_text a c (Err e) text R last is = tt

pub last_text : {E : Type 0} {a b : Option (List ℕ)} {P : List ℕ → Type 0} (c : Option (List ℕ)) (r : Result (Unit {0}) E) (text : List ℕ)
    (R : List ℕ → Type 0) → AppendsText a b P → OnOk r (Appends b c text) → ((x : List ℕ) → P x → R (x ++ text)) → WritesText r a c R
last_text c (Ok x) text R first last joined = and_text c text R first last joined
last_text c (Err e) text R first last joined = tt

pub last_texts : {E : Type 0} {a b : Option (List ℕ)} {P : List ℕ → Type 0} (c : Option (List ℕ)) (r : Result (Unit {0}) E) (Q R : List ℕ → Type 0)
    → AppendsText a b P → WritesText r b c Q → ((x y : List ℕ) → P x → Q y → R (x ++ y)) → WritesText r a c R
last_texts c (Ok x) Q R first last joined = both R first last joined
last_texts c (Err e) Q R first last joined = tt

pub last_exactly : {E : Type 0} {a b : Option (List ℕ)} {front : List ℕ} (c : Option (List ℕ)) (r : Result (Unit {0}) E) (text whole : List ℕ)
    → AppendsText a b (λ x. x ≡ front) → OnOk r (Appends b c text) → front ++ text ≡ whole → WritesText r a c (λ x. x ≡ whole)
last_exactly c (Ok x) text whole first last e = renamed whole e (then_exactly c text first last)
last_exactly c (Err x) text whole first last e = tt

-- if a flush leaves the bytes unchanged, a text with P that was appended before the flush is still appended after it
pub flushed : {E : Type 0} {a b : Option (List ℕ)} {P : List ℕ → Type 0} (c : Option (List ℕ)) (r : Result (Unit {0}) E) → AppendsText a b P → Keeps b c
    → WritesText r a c P
flushed {E} {a} {b} c (Ok x) h kept = record { text = h.text; appended = Appends-kept a b c h.text h.appended kept; is = h.is }
flushed c (Err e) h kept = tt

-- ---- a text for each number

each_more : (f : ℕ → List ℕ) (a n : ℕ) → flat_map f (range_with_len a (suc n)) ≡ flat_map f (range_with_len a n) ++ f (a + n)
each_more f a zero = append-nil (f a) ∙ ap f (let e : a ≡ a + 0 = omega arith in e)
each_more f a (suc n) =
    ap (λ t. f a ++ t) (each_more f (a + 1) n)
    ∙ sym (append_assoc (f a) (flat_map f (range_with_len (a + 1) n)) (f (a + 1 + n)))
    ∙ ap (λ k. (f a ++ flat_map f (range_with_len (a + 1) n)) ++ f k) (let e : a + 1 + n ≡ a + suc n = omega arith in e)

-- the texts of the numbers below n + 1 are the texts of the numbers below n and then the text of n
pub texts_more : (f : ℕ → List ℕ) (n : ℕ) → flat_map f (range_with_len 0 (n + 1)) ≡ flat_map f (range_with_len 0 n) ++ f n
texts_more f n =
    ap (λ k. flat_map f (range_with_len 0 k)) (let e : n + 1 ≡ suc n = omega arith in e) ∙ each_more f 0 n
    ∙ ap (λ k. flat_map f (range_with_len 0 n) ++ f k) (let e : 0 + n ≡ n = omega arith in e)

-- if the text of n is empty, the texts of the numbers below n + 1 are the texts of the numbers below n
pub texts_same : (f : ℕ → List ℕ) (n : ℕ) → f n ≡ [] → flat_map f (range_with_len 0 n) ≡ flat_map f (range_with_len 0 (n + 1))
texts_same f n none =
    sym (texts_more f n ∙ ap (λ t. flat_map f (range_with_len 0 n) ++ t) none ∙ append-nil (flat_map f (range_with_len 0 n)))

-- ---- several texts

abbrev pub Two : (List ℕ → Type 0) → (List ℕ → Type 0) → List ℕ → Type 0
Two P Q text = (x : List ℕ) × (y : List ℕ) × P x × Q y × (text ≡ x ++ y)

pub two : {a b c : Option (List ℕ)} {P Q : List ℕ → Type 0} → AppendsText a b P → AppendsText b c Q → AppendsText a c (Two P Q)
two {a} {b} {c} first second = record {
  text = first.text ++ second.text;
  appended = Appends-trans a b c first.text second.text first.appended second.appended;
  is = (first.text, second.text, first.is, second.is, refl);
}
