-- Matching a form one byte at a time.
use Rattle.std.proofs.Common.{◌≡◌, ℕ, suc, ◌+◌, Bool, true, false, cond, List, [], ◌∷◌, ◌++◌, Option, Some, None, refl, sym, ◌∙◌, ap, append-nil, append_assoc, arith, ◌<◌, length, get_or, drop, drop-cons}
use Rattle.std.specs.Prelude.{count_by, ◌==◌}
use Rattle.std.proofs.lemmas.List.Sums.{sum_by-cons}
use Rattle.trace_check.specs.Forms.{◌>>=◌, number_at, letter_at, mark_at, onto, form_at}

-- the result of a match, with the numbers `front` put in front of the numbers that were found
abbrev pub with_front : List ℕ → Option (List ℕ × List ℕ) → Option (List ℕ × List ℕ)
with_front front found = found >>= (λ others. Some (front ++ others.0, others.1))

onto_front : (front : List ℕ) (number : Option ℕ) (found : Option (List ℕ × List ℕ))
    → with_front front (found >>= (λ others. Some (onto number others.0, others.1))) ≡ with_front (front ++ onto number []) found
onto_front front number None = refl
onto_front front None (Some others) = ap (λ numbers. Some (numbers ++ others.0, others.1)) (sym (append-nil front))
onto_front front (Some n) (Some others) = ap (λ numbers. Some (numbers, others.1)) (sym (append_assoc front (n ∷ []) others.0))

-- if the next byte of the form matches, and the number that it finds, if any, is put at the end of `front`, the result of the
-- whole match stays the same
pub goes_on : (front form next rest after : List ℕ) (mark : ℕ) (number : Option ℕ) (total : Option (List ℕ × List ℕ))
    → form ≡ mark ∷ next → mark_at mark rest ≡ Some (number, after) → with_front front (form_at form rest) ≡ total
    → with_front (front ++ onto number []) (form_at next after) ≡ total
unfolding form_at
goes_on front form next rest after mark number total form_is found so_far =
    sym (onto_front front number (form_at next after))
    ∙ sym (ap (λ first. with_front front (first >>= (λ first. form_at next first.1 >>= (λ others. Some (onto first.0 others.0, others.1))))) found)
    ∙ sym (ap (λ form. with_front front (form_at form rest)) form_is)
    ∙ so_far

pub ends_early : (front form next rest : List ℕ) (mark : ℕ) (total : Option (List ℕ × List ℕ))
    → form ≡ mark ∷ next → mark_at mark rest ≡ None → with_front front (form_at form rest) ≡ total → total ≡ None
unfolding form_at
ends_early front form next rest mark total form_is none so_far =
    sym so_far
    ∙ ap (λ form. with_front front (form_at form rest)) form_is
    ∙ ap (λ first. with_front front (first >>= (λ first. form_at next first.1 >>= (λ others. Some (onto first.0 others.0, others.1))))) none

pub is_done : (front form rest : List ℕ) (total : Option (List ℕ × List ℕ))
    → form ≡ [] → with_front front (form_at form rest) ≡ total → total ≡ Some (front, rest)
unfolding form_at
is_done front form rest total form_is so_far =
    sym so_far
    ∙ ap (λ form. with_front front (form_at form rest)) form_is
    ∙ ap (λ numbers. Some (numbers, rest)) (append-nil front)

abbrev Found : Type 0
Found = Option (Option ℕ × List ℕ)

abbrev letter : ℕ → List ℕ → Found
letter b text = Some (None, text)

abbrev numbered : Option (ℕ × List ℕ) → Found
numbered found = found >>= (λ number. Some (Some number.0, number.1))

-- 2 if a `#` matched a number, 1 if another byte of a form matched itself, and 0 if there was no match
abbrev kind : Found → ℕ
kind None = 0
kind (Some (None, text)) = 1
kind (Some (Some n, text)) = 2

not_letter : (same : Bool) (b n : ℕ) (text after : List ℕ) → cond same (letter b text) None ≡ Some (Some n, after) → ⊥
not_letter true b n text after e = omega (arith, ap kind e)
not_letter false b n text after e = omega (arith, ap kind e)

is_number : (test : Bool) (found : Option (ℕ × List ℕ)) (mark n : ℕ) (text after : List ℕ)
    → cond test (numbered found) (letter_at mark text) ≡ Some (Some n, after) → test ≡ true
is_number true found mark n text after e = refl
is_number false found mark n [] after e = absurd (omega (arith, ap kind e))
is_number false found mark n (b ∷ text) after e = absurd (not_letter (b == mark) b n text after e)

-- only a `#` matches a number
pub mark_is : (mark n : ℕ) (text after : List ℕ) → mark_at mark text ≡ Some (Some n, after) → (mark == 35) ≡ true
unfolding mark_at
mark_is mark n text after e = is_number (mark == 35) (number_at text) mark n text after e

is_letter : (test : Bool) (found : Option (ℕ × List ℕ)) (other : Found) (after : List ℕ)
    → cond test (numbered found) other ≡ Some (None, after) → test ≡ false
is_letter false found other after e = refl
is_letter true None other after e = absurd (omega (arith, ap kind e))
is_letter true (Some (n, text)) other after e = absurd (omega (arith, ap kind e))

pub letter_is : (mark : ℕ) (text after : List ℕ) → mark_at mark text ≡ Some (None, after) → (mark == 35) ≡ false
unfolding mark_at
letter_is mark text after e = is_letter (mark == 35) (number_at text) (letter_at mark text) after e

-- the form from byte k on is byte k, and then the form from byte k + 1 on
pub left_from : (form : List ℕ) (k : ℕ) → k < length form → drop k form ≡ get_or form k 0 ∷ drop (k + 1) form
left_from form k within =
    let next : suc k ≡ k + 1 = omega arith in drop-cons form k 0 within ∙ ap (λ n. get_or form k 0 ∷ drop n form) next

abbrev pub marks : List ℕ → ℕ
marks form = count_by (λ b. b == 35) form

pub first_mark : (form next : List ℕ) (mark : ℕ) (is : Bool) → form ≡ mark ∷ next → (mark == 35) ≡ is → marks form ≡ cond is 1 0 + marks next
first_mark form next mark is form_is test =
    ap marks form_is ∙ sum_by-cons (λ b. cond (b == 35) 1 0) mark next ∙ ap (λ test. cond test 1 0 + marks next) test

pub one_mark_less : (form next rest after : List ℕ) (mark n : ℕ) → form ≡ mark ∷ next → mark_at mark rest ≡ Some (Some n, after)
    → marks form ≡ 1 + marks next
one_mark_less form next rest after mark n form_is found = first_mark form next mark true form_is (mark_is mark n rest after found)

pub as_many_marks : (form next rest after : List ℕ) (mark : ℕ) → form ≡ mark ∷ next → mark_at mark rest ≡ Some (None, after)
    → marks form ≡ marks next
as_many_marks form next rest after mark form_is found =
    first_mark form next mark false form_is (letter_is mark rest after found) ∙ omega arith

-- ---- words, which contain no `#`

no_mark : (is : Bool) (n : ℕ) → cond is 1 0 + n ≡ 0 → (is ≡ false) × (n ≡ 0)
no_mark true n e = absurd (omega (arith, e))
no_mark false n e = (refl, omega (arith, e))

pub no_number : (form next : List ℕ) (mark : ℕ) → form ≡ mark ∷ next → marks form ≡ 0 → ((mark == 35) ≡ false) × (marks next ≡ 0)
no_number form next mark form_is none = no_mark (mark == 35) (marks next) (sym (first_mark form next mark (mark == 35) form_is refl) ∙ none)

same_found : (found : Option (List ℕ × List ℕ)) → (found >>= (λ others. Some (others.0, others.1))) ≡ found
same_found None = refl
same_found (Some others) = refl

pub letter_on : (form next rest : List ℕ) (letter : ℕ) → form ≡ letter ∷ next → (letter == 35) ≡ false
    → form_at form rest ≡ (letter_at letter rest >>= (λ first. form_at next first.1 >>= (λ others. Some (onto first.0 others.0, others.1))))
unfolding form_at mark_at
letter_on form next rest letter form_is is =
    ap (λ form. form_at form rest) form_is
    ∙ ap (λ test. cond test (numbered (number_at rest)) (letter_at letter rest) >>= (λ first. form_at next first.1 >>= (λ others. Some (onto first.0 others.0, others.1)))) is

-- if the form and the text begin with the same letter, matching them gives the same as matching what follows this letter in both
pub letter_found : (form next rest after : List ℕ) (letter : ℕ) → form ≡ letter ∷ next → (letter == 35) ≡ false → letter_at letter rest ≡ Some (None, after)
    → form_at form rest ≡ form_at next after
letter_found form next rest after letter form_is is found =
    letter_on form next rest letter form_is is
    ∙ ap (λ first. first >>= (λ first. form_at next first.1 >>= (λ others. Some (onto first.0 others.0, others.1)))) found
    ∙ same_found (form_at next after)

pub letter_missing : (form next rest : List ℕ) (letter : ℕ) → form ≡ letter ∷ next → (letter == 35) ≡ false → letter_at letter rest ≡ None
    → form_at form rest ≡ None
letter_missing form next rest letter form_is is none =
    letter_on form next rest letter form_is is
    ∙ ap (λ first. first >>= (λ first. form_at next first.1 >>= (λ others. Some (onto first.0 others.0, others.1)))) none

pub word_ends : (word rest : List ℕ) → word ≡ [] → form_at word rest ≡ Some ([], rest)
unfolding form_at
word_ends word rest is = ap (λ word. form_at word rest) is

-- the form `after` is matched with the text that follows a number, and the number is put in front of the numbers found
abbrev pub number_then : List ℕ → ℕ × List ℕ → Option (List ℕ × List ℕ)
number_then after number = with_front (number.0 ∷ []) (form_at after number.1)

-- a number, and then the form `after`, are matched with the text that follows the match `at`
abbrev pub number_behind : List ℕ → Option (List ℕ × List ℕ) → Option (List ℕ × List ℕ)
number_behind after at = at >>= (λ found. number_at found.1 >>= number_then after)

abbrev number_next : List ℕ → Option (ℕ × List ℕ) → Option (List ℕ × List ℕ)
number_next after found = numbered found >>= (λ first. form_at after first.1 >>= (λ others. Some (onto first.0 others.0, others.1)))

number_first : (found : Option (ℕ × List ℕ)) (after : List ℕ) → number_next after found ≡ (found >>= number_then after)
number_first None after = refl
number_first (Some number) after = refl

no_number_at : (letter n : ℕ) (text after : List ℕ) → letter_at letter text ≡ Some (Some n, after) → ⊥
no_number_at letter n [] after e = omega (arith, ap kind e)
no_number_at letter n (b ∷ text) after e = not_letter (b == letter) b n text after e

-- a form that is a word, a `#` and the form `after` is matched as the word, then a number, then `after`
pub between : (before after text : List ℕ) → marks before ≡ 0 → form_at (before ++ 35 ∷ after) text ≡ number_behind after (form_at before text)
unfolding form_at mark_at
between [] after text none = number_first (number_at text) after
between (letter ∷ before) after text none =
    let next = no_number (letter ∷ before) before letter refl none in
    step (letter_at letter text) refl next.0 (λ rest. between before after rest next.1) where
      step : (found : Option (Option ℕ × List ℕ)) → letter_at letter text ≡ found → (letter == 35) ≡ false
          → ((rest : List ℕ) → form_at (before ++ 35 ∷ after) rest ≡ number_behind after (form_at before rest))
          → form_at ((letter ∷ before) ++ 35 ∷ after) text ≡ number_behind after (form_at (letter ∷ before) text)
      step None found is more =
          letter_missing ((letter ∷ before) ++ 35 ∷ after) (before ++ 35 ∷ after) text letter refl is found
          ∙ sym (ap (number_behind after) (letter_missing (letter ∷ before) before text letter refl is found))
      step (Some (None, rest)) found is more =
          letter_found ((letter ∷ before) ++ 35 ∷ after) (before ++ 35 ∷ after) text rest letter refl is found
          ∙ more rest
          ∙ sym (ap (number_behind after) (letter_found (letter ∷ before) before text rest letter refl is found))
      step (Some (Some n, rest)) found is more = absurd (no_number_at letter n text rest found)
