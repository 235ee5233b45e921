-- Lemmas in two directions. If a text matches a form, and numbers are found in it, the text is the form with these numbers filled
-- in. In the other direction, a form with numbers filled in is a text that matches the form, and the numbers that are found in
-- the text are the numbers that were filled in.
use Rattle.std.proofs.Common.{rules, ◌≡◌, ℕ, zero, suc, ◌+◌, ◌-◌, ◌*◌, ◌^◌, ◌<◌, ◌≤◌, Bool, true, false, cond, not, ◌&&◌, List, [], ◌∷◌, ◌++◌, length, get_or, take, drop, fold, Option, Some, None, refl, sym, ◌∙◌, ap, subst, append_assoc, arith, take-append-drop}
use Rattle.std.specs.Prelude.{decimal, ◌==◌, take_while}
use Rattle.std.specs.List.{list_all, prefix_len, All}
use Rattle.std.specs.Char.{is_ascii_digit}
use Rattle.std.proofs.lemmas.Bool.Decides.{nat_tests}
use Rattle.std.proofs.lemmas.Fmt.{decimal-digits_value, digits_decimal, digits_value-decimal, length-decimal-le, first_decimal, decimal_nonempty, decimal_digit}
use Rattle.std.proofs.lemmas.Str.Parse.{IsNumeralModel, numerals_by_fold}
use Rattle.std.proofs.lemmas.Option.{some_pair_parts, same_Some, cond_some}
use Rattle.std.proofs.lemmas.List.{take_at, drop_at}
use Rattle.std.proofs.lemmas.List.Elements.{All-head, All-tail}
use Rattle.words_core.specs.Numbers.{value_of}
use Rattle.trace_check.specs.Forms.{◌>>=◌, plain_number, number_at, letter_at, mark_at, onto, form_at}
use Rattle.trace_check.proofs.FormLoop.{marks, first_mark, mark_is, letter_is}

-- if two steps, one after the other, find y, the first finds an x, and the second finds y from it
pub bind_some : {A B : Type 0} (found : Option A) (f : A → Option B) (y : B) → (found >>= f) ≡ Some y → (x : A) × (found ≡ Some x) × (f x ≡ Some y)
bind_some (Some x) f y e = (x, refl, e)
bind_some None f y e = absurd cc

pub both : (a b : Bool) → (a && b) ≡ true → (a ≡ true) × (b ≡ true)
both true b e = (refl, e)
both false b e = absurd cc

-- ---- numbers

own : IsNumeralModel (λ ds. list_all is_ascii_digit ds ≡ true) value_of
own = numerals_by_fold _ (search rules) (λ n ds. fold (λ value digit. value * 10 + (digit - 48)) n ds) (search rules)

is_decimal : (word : List ℕ) (n : ℕ) → plain_number word ≡ Some n
    → (0 < length word) × (list_all is_ascii_digit word ≡ true) × (value_of word ≡ n) × (n < 2 ^ 32) × (get_or word 0 0 ≡ 48 → length word ≡ 1)
is_decimal word n e = grind (arith, nat_tests)

-- if a word is read as a number, the word is this number in decimal, and the number is below 2 ^ 32
decimal_is : (word : List ℕ) (n : ℕ) → plain_number word ≡ Some n → (decimal n ≡ word) × (n < 2 ^ 32)
decimal_is word n e =
    let (some, digits, value, small, lead) = is_decimal word n e in
    (ap decimal (sym value) ∙ decimal-digits_value own word digits some lead (omega (arith, value, small)), small)

no_zero : (n : ℕ) → n < 2 ^ 32 → get_or (decimal n) 0 0 ≡ 48 → length (decimal n) ≤ 1
no_zero zero small is = omega (arith, ap length (decimal_digit 0 (omega arith)))
no_zero (suc n) small is = absurd (omega (arith, is, first_decimal (suc n) (omega arith) (omega arith)))

again : (word : List ℕ) (n : ℕ) → 0 < length word → length word ≤ 10 → list_all is_ascii_digit word ≡ true → value_of word ≡ n → n < 2 ^ 32
    → (get_or word 0 0 ≡ 48 → length word ≤ 1) → plain_number word ≡ Some n
again word n some few digits value small lead = grind (arith, nat_tests)

plain_again : (n : ℕ) → n < 2 ^ 32 → plain_number (decimal n) ≡ Some n
plain_again n small =
    let wide : n < 2 ^ 64 = omega arith in
    again (decimal n) n (decimal_nonempty n wide) (length-decimal-le 10 n (omega arith) (omega arith) wide)
    (digits_decimal own n wide) (digits_value-decimal own n wide) small (no_zero n small)

-- the text is empty, or its first byte does not pass the test `p`
abbrev pub StopsAt : (ℕ → Bool) → List ℕ → Type 0
StopsAt p [] = Unit {0}
StopsAt p (b ∷ _) = p b ≡ false

abbrev pub StartsNoDigit : List ℕ → Type 0
StartsNoDigit rest = StopsAt is_ascii_digit rest

none_pass : (p : ℕ → Bool) (rest : List ℕ) → StopsAt p rest → prefix_len p rest ≡ 0
none_pass p [] ends = refl
none_pass p (b ∷ rest) ends = ap (λ test. cond test (1 + prefix_len p rest) 0) ends

prefix_is : (p : ℕ → Bool) (front rest : List ℕ) → list_all p front ≡ true → StopsAt p rest → prefix_len p (front ++ rest) ≡ length front
prefix_is p [] rest all ends = none_pass p rest ends
prefix_is p (b ∷ front) rest all ends =
    let (first, others) = both (p b) (list_all p front) all in
    ap (λ test. cond test (1 + prefix_len p (front ++ rest)) 0) first
    ∙ ap (λ n. 1 + n) (prefix_is p front rest others ends)
    ∙ omega arith

pub size_of : (p : ℕ → Bool) (front rest : List ℕ) → list_all p front ≡ true → StopsAt p rest
    → length (take_while p (front ++ rest)) ≡ length front
size_of p front rest all ends =
    let whole = front ++ rest in
    ap (λ n. length (take n whole)) (prefix_is p front rest all ends) ∙ ap length (take_at front rest (length front) refl)

-- if `number_at` finds a number, the text is this number in decimal, and then the rest
number_takes : (text : List ℕ) (n : ℕ) (rest : List ℕ) → number_at text ≡ Some (n, rest) → text ≡ decimal n ++ rest
unfolding number_at
number_takes text n rest e =
    let size = length (take_while is_ascii_digit text) in
    let (m, found, is) = bind_some (plain_number (take size text)) (λ number. Some (number, drop size text)) (n, rest) e in
    let (m_is, rest_is) = some_pair_parts m n (drop size text) rest is in
    sym (take-append-drop size text) ∙ (λ i. sym (decimal_is (take size text) m found).0 i ++ drop size text) ∙ (λ i. decimal (m_is i) ++ rest_is i)

pub number_again : (n : ℕ) (rest : List ℕ) → n < 2 ^ 32 → StartsNoDigit rest → number_at (decimal n ++ rest) ≡ Some (n, rest)
unfolding number_at
number_again n rest small ends =
    let digits = decimal n in
    ap (λ size. plain_number (take size (digits ++ rest)) >>= (λ number. Some (number, drop size (digits ++ rest))))
    (size_of is_ascii_digit digits rest (digits_decimal own n (omega arith)) ends)
    ∙ ap (λ word. plain_number word >>= (λ number. Some (number, drop (length digits) (digits ++ rest)))) (take_at digits rest (length digits) refl)
    ∙ ap (λ found. found >>= (λ number. Some (number, drop (length digits) (digits ++ rest)))) (plain_again n small)
    ∙ ap (λ after. Some (n, after)) (drop_at digits rest (length digits) refl)

-- ---- forms

-- the text of a form with these numbers: each `#` is replaced by the next number in decimal
abbrev pub form_text : List ℕ → List ℕ → List ℕ
form_text [] ns = []
form_text (mark ∷ form) ns = cond (mark == 35) (decimal (get_or ns 0 0) ++ form_text form (drop 1 ns)) (mark ∷ form_text form ns)

-- the form begins with a byte that is neither a digit nor a `#`, so that it may follow a `#`
abbrev pub may_follow : List ℕ → Bool
may_follow [] = false
may_follow (b ∷ _) = not (is_ascii_digit b) && not (b == 35)

-- each `#` of the form is followed by a byte that ends its number
abbrev pub is_form : List ℕ → Bool
is_form [] = true
is_form (mark ∷ form) = cond (mark == 35) (may_follow form) true && is_form form

abbrev numbered : Option (ℕ × List ℕ) → Option (Option ℕ × List ℕ)
numbered found = found >>= (λ number. Some (Some number.0, number.1))

pub same_byte : (a b : ℕ) → (a == b) ≡ true → a ≡ b
same_byte a b e = grind (arith, nat_tests)

at_letter : (letter : ℕ) (text after : List ℕ) → letter_at letter text ≡ Some (None, after) → text ≡ letter ∷ after
at_letter letter [] after e = absurd cc
at_letter letter (b ∷ text) after e =
    let found : Option ℕ × List ℕ = (None, text) in
    let wanted : Option ℕ × List ℕ = (None, after) in
    let (same, is) = cond_some (b == letter) found wanted e in
    let tail : text ≡ after = ap (λ (p : Option ℕ × List ℕ). p.1) is in
    (λ i. same_byte b letter same i ∷ tail i)

takes_number : (mark n : ℕ) (text after : List ℕ) → mark_at mark text ≡ Some (Some n, after) → text ≡ decimal n ++ after
unfolding mark_at
takes_number mark n text after e =
    let numbers : numbered (number_at text) ≡ Some (Some n, after) =
    sym (ap (λ test. cond test (numbered (number_at text)) (letter_at mark text)) (mark_is mark n text after e)) ∙ e in
    let (p, found, is) = bind_some (number_at text) (λ number. Some (Some number.0, number.1)) (Some n, after) numbers in
    let (number, rest) = some_pair_parts (Some p.0) (Some n) p.1 after is in
    number_takes text p.0 p.1 found ∙ (λ i. decimal (same_Some p.0 n number i) ++ rest i)

takes_letter : (mark : ℕ) (text after : List ℕ) → mark_at mark text ≡ Some (None, after) → text ≡ mark ∷ after
unfolding mark_at
takes_letter mark text after e =
    at_letter mark text after
    (sym (ap (λ test. cond test (numbered (number_at text)) (letter_at mark text)) (letter_is mark text after e)) ∙ e)

one_takes : (mark : ℕ) (form text : List ℕ) (number : Option ℕ) (after others rest : List ℕ) → mark_at mark text ≡ Some (number, after)
    → after ≡ form_text form others ++ rest → length others ≡ marks form
    → (text ≡ form_text (mark ∷ form) (onto number others) ++ rest) × (length (onto number others) ≡ marks (mark ∷ form))
one_takes mark form text (Some n) after others rest found after_is count =
    let test = mark_is mark n text after found in (
      takes_number mark n text after found
          ∙ ap (λ t. decimal n ++ t) after_is
          ∙ sym (append_assoc (decimal n) (form_text form others) rest)
          ∙ ap (λ t. cond t (decimal n ++ form_text form others) (mark ∷ form_text form (n ∷ others)) ++ rest) (sym test),
      omega (arith, count, first_mark (mark ∷ form) form mark true refl test),
    )
one_takes mark form text None after others rest found after_is count =
    let test = letter_is mark text after found in (
      takes_letter mark text after found
          ∙ ap (λ t. mark ∷ t) after_is
          ∙ ap (λ t. cond t (decimal (get_or others 0 0) ++ form_text form (drop 1 others)) (mark ∷ form_text form others) ++ rest) (sym test),
      omega (arith, count, first_mark (mark ∷ form) form mark false refl test),
    )

-- if a text matches a form, it is the text of the form with the numbers found, and then the rest; there is one number for each
-- `#`
pub form_takes : (form text ns rest : List ℕ) → form_at form text ≡ Some (ns, rest)
    → (text ≡ form_text form ns ++ rest) × (length ns ≡ marks form)
unfolding form_at
form_takes [] text ns rest e =
    let (ns_is, rest_is) = some_pair_parts [] ns text rest e in (rest_is, sym (ap length ns_is))
form_takes (mark ∷ form) text ns rest e =
    let (first, found, next) = bind_some (mark_at mark text) (λ first. form_at form first.1 >>= (λ others. Some (onto first.0 others.0, others.1))) (ns, rest) e in
    let (others, more, is) = bind_some (form_at form first.1) (λ others. Some (onto first.0 others.0, others.1)) (ns, rest) next in
    let (ns_is, rest_is) = some_pair_parts (onto first.0 others.0) ns others.1 rest is in
    let (after_is, count) = form_takes form first.1 others.0 others.1 more in
    let (text_is, size) = one_takes mark form text first.0 first.1 others.0 others.1 found after_is count in
    (text_is ∙ (λ i. form_text (mark ∷ form) (ns_is i) ++ rest_is i), sym (ap length ns_is) ∙ size)

follows : (form ns rest : List ℕ) → may_follow form ≡ true → StartsNoDigit (form_text form ns ++ rest)
follows [] ns rest e = absurd cc
follows (b ∷ form) ns rest e = step (is_ascii_digit b) (b == 35) refl refl e where
  step : (digit mark : Bool) → is_ascii_digit b ≡ digit → (b == 35) ≡ mark → (not digit && not mark) ≡ true
      → StartsNoDigit (form_text (b ∷ form) ns ++ rest)
  step false false d m e =
      subst (λ t. StartsNoDigit (cond t (decimal (get_or ns 0 0) ++ form_text form (drop 1 ns)) (b ∷ form_text form ns) ++ rest)) (sym m) d
  step false true d m e = absurd cc
  step true mark d m e = absurd cc

again_number : (mark : ℕ) (form : List ℕ) (n : ℕ) (ns rest : List ℕ) → (mark == 35) ≡ true → may_follow form ≡ true → n < 2 ^ 32
    → form_at form (form_text form ns ++ rest) ≡ Some (ns, rest)
    → form_at (mark ∷ form) (form_text (mark ∷ form) (n ∷ ns) ++ rest) ≡ Some (n ∷ ns, rest)
unfolding form_at mark_at
again_number mark form n ns rest is follow small more =
    let text = form_text form ns ++ rest in
    ap (form_at (mark ∷ form))
    (ap (λ t. cond t (decimal n ++ form_text form ns) (mark ∷ form_text form (n ∷ ns)) ++ rest) is ∙ append_assoc (decimal n) (form_text form ns) rest)
    ∙ ap (λ first. first >>= (λ first. form_at form first.1 >>= (λ others. Some (onto first.0 others.0, others.1))))
    (ap (λ t. cond t (numbered (number_at (decimal n ++ text))) (letter_at mark (decimal n ++ text))) is
    ∙ ap numbered (number_again n text small (follows form ns rest follow)))
    ∙ ap (λ others. others >>= (λ others. Some (n ∷ others.0, others.1))) more

pub itself : (b : ℕ) → (b == b) ≡ true
itself b = grind (arith, nat_tests)

again_letter : (mark : ℕ) (form ns rest : List ℕ) → (mark == 35) ≡ false → form_at form (form_text form ns ++ rest) ≡ Some (ns, rest)
    → form_at (mark ∷ form) (form_text (mark ∷ form) ns ++ rest) ≡ Some (ns, rest)
unfolding form_at mark_at
again_letter mark form ns rest is more =
    let text = form_text form ns ++ rest in
    ap (form_at (mark ∷ form))
    (ap (λ t. cond t (decimal (get_or ns 0 0) ++ form_text form (drop 1 ns)) (mark ∷ form_text form ns) ++ rest) is)
    ∙ ap (λ first. first >>= (λ first. form_at form first.1 >>= (λ others. Some (onto first.0 others.0, others.1))))
    (ap (λ t. cond t (numbered (number_at (mark ∷ text))) (letter_at mark (mark ∷ text))) is
    ∙ ap (λ t. cond t (Some (None, text)) None) (itself mark))
    ∙ ap (λ others. others >>= (λ others. Some (others.0, others.1))) more

-- the text of a form with numbers below 2 ^ 32 matches the form, with these numbers
pub form_again : (form ns rest : List ℕ) → is_form form ≡ true → length ns ≡ marks form → All (λ n. n < 2 ^ 32) ns
    → form_at form (form_text form ns ++ rest) ≡ Some (ns, rest)
unfolding form_at
form_again [] [] rest good count small = refl
form_again [] (n ∷ ns) rest good count small = absurd (omega (arith, count))
form_again (mark ∷ form) ns rest good count small =
    let (follow, others) = both (cond (mark == 35) (may_follow form) true) (is_form form) good in
    step (mark == 35) refl follow ns count small (λ more count small. form_again form more rest others count small) where
      step : (test : Bool) → (mark == 35) ≡ test → cond test (may_follow form) true ≡ true
          → (ns : List ℕ) → length ns ≡ marks (mark ∷ form) → All (λ n. n < 2 ^ 32) ns
          → ((more : List ℕ) → length more ≡ marks form → All (λ n. n < 2 ^ 32) more → form_at form (form_text form more ++ rest) ≡ Some (more, rest))
          → form_at (mark ∷ form) (form_text (mark ∷ form) ns ++ rest) ≡ Some (ns, rest)
      step false is follow ns count small again =
          again_letter mark form ns rest is (again ns (omega (arith, count, first_mark (mark ∷ form) form mark false refl is)) small)
      step true is follow [] count small again = absurd (omega (arith, count, first_mark (mark ∷ form) form mark true refl is))
      step true is follow (n ∷ ns) count small again =
          again_number mark form n ns rest is follow (All-head (λ n. n < 2 ^ 32) n ns small)
          (again ns (omega (arith, count, first_mark (mark ∷ form) form mark true refl is)) (All-tail (λ n. n < 2 ^ 32) n ns small))
