-- A line whose words are separated by single spaces reads as the command that its words make.
use Rattle.std.proofs.Common.{◌≡◌, inl, inr, not, position, length-append, ℕ, ◌+◌, ◌-◌, ◌^◌, ◌<◌, ◌≤◌, Bool, true, false, ◌&&◌, nat_lt, nat_le, ◌==◌, if◌then◌else◌, List, [], ◌∷◌, ◌++◌, codes, length, get_or, take, Option, Some, None, Result, Ok, refl, sym, ◌∙◌, ap, subst, arith, append-nil}
use Rattle.std.specs.List.{All, Contains, list_all, slice_range}
use Rattle.std.specs.Char.{is_ascii_digit}
use Rattle.std.specs.Str.Lines.{strip_carriage_return}
use Rattle.std.proofs.Math.Seq.{get_or-append_seam, take-append_seam}
use Rattle.std.proofs.lemmas.Bool.{cases_lt}
use Rattle.std.proofs.lemmas.Bool.Decides.{nat_tests}
use Rattle.std.proofs.lemmas.List.Elements.{All-nil, All-cons, All-head, All-tail, All-append, All-weaker, All-from_recursion}
use Rattle.std.proofs.lemmas.List.{get_or-take, length-take-le}
use Rattle.std.proofs.lemmas.Slice.{between_from_start}
use Rattle.words_core.specs.Cases.{AllMake, CaseOfBytes, Case, of_words, event}
use Rattle.words_core.specs.Commands.{or_fault, number, CommandRow, tenant, tenant_rows}
use Rattle.words_core.specs.Grammar.{reading_of}
use Rattle.words_core.specs.Numbers.{is_number, value_of, number_of}
use Rattle.words_core.specs.Words.{IsBlank, IsLetter, IsWord, StartsBlank, HasWords}
use Rattle.words_core.specs.declared.event.Command.{Command}
use Rattle.words_core.specs.declared.event.Event.{Event}
use Rattle.words_core.specs.declared.event.Event.TheVariants.{Tenant}
use Rattle.words_core.specs.declared.event.LineFault.{LineFault}
use Rattle.words_core.specs.declared.event.LineFault.TheVariants.{Number}
use Rattle.quick_core.specs.Lines.{EndsLine, ReadsAs, IsLastNumber, NamesTenant}
use Rattle.quick_core.specs.declared.number.Number.{Number as ReadNumber}
use Rattle.quick_core.proofs.WindowLemmas.{cut, front, one_more, first_line_feed}

-- ---- bytes

-- the byte is above 32, so it is neither a blank nor part of a line's end
abbrev pub IsPlain : ℕ → Type 0
IsPlain b = 32 < b

-- the word has at least one byte, and all its bytes are plain
abbrev pub IsPlainWord : List ℕ → Type 0
IsPlainWord word = (0 < length word) × All IsPlain word

letter : (b : ℕ) → IsPlain b → IsLetter b
letter b plain = grind (arith, nat_tests)

pub word_of_plain : (word : List ℕ) → IsPlainWord word → IsWord word
word_of_plain word (some, plain) = (some, All-weaker IsPlain IsLetter letter word plain)

-- ---- numbers

plain_digits : (word : List ℕ) → list_all is_ascii_digit word ≡ true → All IsPlain word
plain_digits [] digits = All-nil IsPlain
plain_digits (b ∷ word) digits =
    All-cons IsPlain b word (first b (list_all is_ascii_digit word) digits) (plain_digits word (rest (is_ascii_digit b) (list_all is_ascii_digit word) digits)) where
      first : (b : ℕ) (more : Bool) → (is_ascii_digit b && more) ≡ true → IsPlain b
      first b more digits = grind (arith, nat_tests)

      rest : (first more : Bool) → (first && more) ≡ true → more ≡ true
      rest true more both = both
      rest false more both = absurd cc

pub plain_number : (word : List ℕ) (n : ℕ) → number_of word ≡ Some n → IsPlainWord word
plain_number word n is = (
  some (nat_lt 0 (length word)) (nat_le (length word) 10) (list_all is_ascii_digit word) (nat_lt (value_of word) (2 ^ 32)) refl tests,
  plain_digits word (digits (nat_lt 0 (length word)) (nat_le (length word) 10) (list_all is_ascii_digit word) (nat_lt (value_of word) (2 ^ 32)) tests),
) where
  by : (test : Bool) (value : ℕ) → (if test then Some value else None) ≡ Some n → test ≡ true
  by true value is = refl
  by false value is = absurd cc

  tests : is_number word ≡ true
  tests = by (is_number word) (value_of word) is

  some : (a b c d : Bool) → nat_lt 0 (length word) ≡ a → (a && b && c && d) ≡ true → 0 < length word
  some true b c d test all = grind (arith, nat_tests)
  some false b c d test all = absurd cc

  digits : (a b c d : Bool) → (a && b && c && d) ≡ true → c ≡ true
  digits true true true d all = refl
  digits true true false d all = absurd cc
  digits true false c d all = absurd cc
  digits false b c d all = absurd cc

-- ---- words, each after one space

abbrev pub spaced : List (List ℕ) → List ℕ
spaced [] = []
spaced (word ∷ words) = 32 ∷ (word ++ spaced words)

starts_blank : (words : List (List ℕ)) → StartsBlank (spaced words)
starts_blank [] = tt
starts_blank (word ∷ words) = refl

spaced_has : (words : List (List ℕ)) → All IsPlainWord words → HasWords (spaced words) words
spaced_has [] plain = All-nil IsBlank
spaced_has (word ∷ words) plain = (
  spaced words,
  record {
    gap = 32 ∷ [];
    split = refl;
    blanks = All-cons IsBlank 32 [] refl (All-nil IsBlank);
    is_word = word_of_plain word (All-head IsPlainWord word words plain);
    ends = starts_blank words;
  },
  spaced_has words (All-tail IsPlainWord word words plain),
)

line_has : (first : List ℕ) (words : List (List ℕ)) → IsPlainWord first → All IsPlainWord words → HasWords (first ++ spaced words) (first ∷ words)
line_has first words plain all = (
  spaced words,
  record {
    gap = [];
    split = refl;
    blanks = All-nil IsBlank;
    is_word = word_of_plain first plain;
    ends = starts_blank words;
  },
  spaced_has words all,
)

-- the byte is above 31, so it is neither a line feed nor a carriage return
abbrev pub IsInLine : ℕ → Type 0
IsInLine b = 31 < b

spaced_in_line : (words : List (List ℕ)) → All IsPlainWord words → All IsInLine (spaced words)
spaced_in_line [] plain = All-nil IsInLine
spaced_in_line (word ∷ words) plain =
    All-cons IsInLine 32 (word ++ spaced words) (omega arith)
    (All-append IsInLine word (spaced words)
    (All-weaker IsPlain IsInLine (λ b. λ above. omega arith) word (All-head IsPlainWord word words plain).1)
    (spaced_in_line words (All-tail IsPlainWord word words plain)))

pub in_line : (first : List ℕ) (words : List (List ℕ)) → IsPlainWord first → All IsPlainWord words → All IsInLine (first ++ spaced words)
in_line first words plain all =
    All-append IsInLine first (spaced words) (All-weaker IsPlain IsInLine (λ b. λ above. omega arith) first plain.1) (spaced_in_line words all)

no_carriage_return : (line : List ℕ) → All IsInLine line → strip_carriage_return line ≡ line
no_carriage_return [] all = refl
no_carriage_return (b ∷ bytes) all =
    let last : 31 < get_or (b ∷ bytes) (length (b ∷ bytes) - 1) 0 = all (length (b ∷ bytes) - 1) 0 (omega arith) in
    let test : (get_or (b ∷ bytes) (length (b ∷ bytes) - 1) 0 == 13) ≡ false = grind (arith, nat_tests) in
    ap (λ t. if t then take (length (b ∷ bytes) - 1) (b ∷ bytes) else (b ∷ bytes)) test

-- `strip_carriage_return` removes a carriage return that is put after a line
carriage_return : (line : List ℕ) → strip_carriage_return (line ++ 13 ∷ []) ≡ line
carriage_return line =
    let size : length (line ++ 13 ∷ []) - 1 ≡ length line = omega (arith, length-append line (13 ∷ [])) in
    ap (λ n. if get_or (line ++ 13 ∷ []) n 0 == 13 then take n (line ++ 13 ∷ []) else (line ++ 13 ∷ [])) size
    ∙ ap (λ b. if b == 13 then take (length line) (line ++ 13 ∷ []) else (line ++ 13 ∷ [])) (get_or-append_seam line 13 [] 0)
    ∙ take-append_seam line (13 ∷ [])

-- ---- the end of a line

not_line_feed : (b : ℕ) → 31 < b → not (b == 10) ≡ true
not_line_feed b above = grind (arith, nat_tests)

-- If a line's end begins at e and no byte before e is below 32, the first line feed is the line's last byte. The text of the line
-- is the first e bytes.
ended_line : (window : List ℕ) (e len : ℕ) → EndsLine window e len → All IsInLine (take e window)
    → (0 < len) × (position (λ b. b == 10) window ≡ Some (len - 1)) × (strip_carriage_return (take (len - 1) window) ≡ take e window)
ended_line window e len ends all = elim ends.ended [
  | inl found ↦
      let end : e ≡ len - 1 = omega (arith, found.0) in (
        omega (arith, found.0),
        first_line_feed window e (omega (arith, found.0, ends.within)) before found.1 ∙ ap Some end,
        ap (λ n. strip_carriage_return (take n window)) (sym end) ∙ no_carriage_return (take e window) all,
      )
  | inr found ↦
      let end : e + 1 ≡ len - 1 = omega (arith, found.0) in
      let within : e + 1 < length window = omega (arith, found.0, ends.within) in (
        omega (arith, found.0),
        first_line_feed window (e + 1) within (before_or_at found.1) found.2 ∙ ap Some end,
        ap (λ n. strip_carriage_return (take n window)) (sym end)
            ∙ ap strip_carriage_return
            (sym (between_from_start window (e + 1))
            ∙ one_more window 0 e 13 (take e window) (omega arith) (omega arith) (between_from_start window e) found.1)
            ∙ carriage_return (take e window),
      )
] where
  end_within : e < length window
  end_within = elim ends.ended [
    | inl found ↦ omega (arith, found.0, ends.within)
    | inr found ↦ omega (arith, found.0, ends.within)
  ]

  before : (k : ℕ) → k < e → not (get_or window k 0 == 10) ≡ true
  before k below =
      let there : k < length (take e window) = omega (arith, length-take-le e window (omega (arith, end_within))) in
      not_line_feed (get_or window k 0) (subst IsInLine (get_or-take e window k 0 below) (all k 0 there))

  before_or_at : get_or window e 0 ≡ 13 → (k : ℕ) → k < e + 1 → not (get_or window k 0 == 10) ≡ true
  before_or_at at k below = elim (cases_lt k e) [
    | inl first ↦ before k first
    | inr last ↦ ap (λ n. not (get_or window n 0 == 10)) (omega arith) ∙ ap (λ b. not (b == 10)) at
  ]

-- ---- the meaning of a line with single spaces

-- each line is in one of the numbered cases, and the reading that belongs to this case is `reading_of` of the line
abbrev pub SomeCase : Type 0
SomeCase = (line : List ℕ) → (number : ℕ) × Case number line (reading_of line)

abbrev pub OneCase : Type 0
OneCase = (line : List ℕ) (number other : ℕ) (reading second : Result (Option Event) LineFault)
    → Case number line reading → Case other line second → (other ≡ number) × (second ≡ reading)

-- Suppose that a line has at most 255 bytes, and consists of a tenant's number, a command's word and arguments, with single
-- spaces between them. Then the line reads as the command of this tenant that the arguments make.
pub event_said : SomeCase → OneCase → (line first : List ℕ) (arguments : List (List ℕ)) (t : ℕ) (row : CommandRow Command) (command : Command)
    → strip_carriage_return line ≡ first ++ spaced (row.word ∷ arguments)
    → number_of first ≡ Some t → Contains tenant_rows row → IsPlainWord row.word → All IsPlainWord arguments
    → length (first ++ spaced (row.word ∷ arguments)) ≤ 255
    → AllMake row.forms row.makes arguments command
    → reading_of line ≡ Ok (Some (Tenant t command))
event_said some only line first arguments t row command text first_is has plain_word plain short make =
    let all : All IsPlainWord (row.word ∷ arguments) = All-cons IsPlainWord row.word arguments plain_word plain in
    let first_plain : IsPlainWord first = plain_number first t first_is in
    let case : Case 8 line (Ok (Some (Tenant t command))) =
    subst (λ bytes. CaseOfBytes 8 bytes (Ok (Some (Tenant t command)))) (sym text)
    (of_words short (first ∷ row.word ∷ arguments) (line_has first (row.word ∷ arguments) first_plain all)
    (event (tenant t) first_is row (has, refl) command make)) in
    (only line 8 (some line).0 (Ok (Some (Tenant t command))) (reading_of line) case (some line).1).1

-- ---- a line with single spaces in a window

-- if the window begins with these words, with single spaces between them, and a line end follows the words, this line reads as
-- this command of this tenant
pub is_read : SomeCase → OneCase → (window first : List ℕ) (arguments : List (List ℕ)) (e len t : ℕ) (row : CommandRow Command) (command : Command)
    → e ≤ length window → e ≤ 255 → EndsLine window e len → take e window ≡ first ++ spaced (row.word ∷ arguments)
    → number_of first ≡ Some t → Contains tenant_rows row → IsPlainWord row.word → All IsPlainWord arguments
    → AllMake row.forms row.makes arguments command
    → ReadsAs window t command len
is_read some only window first arguments e len t row command fits few ends cuts first_is has plain_word plain make =
    let all : All IsInLine (take e window) =
    subst (All IsInLine) (sym cuts)
    (in_line first (row.word ∷ arguments) (plain_number first t first_is) (All-cons IsPlainWord row.word arguments plain_word plain)) in
    let line = ended_line window e len ends all in
    let short : length (first ++ spaced (row.word ∷ arguments)) ≤ 255 = omega (arith, ap length cuts, length-take-le e window fits) in
    record {
      some = line.0;
      within = ends.within;
      ended = line.1;
      reading = event_said some only (take (len - 1) window) first arguments t row command (line.2 ∙ cuts) first_is has plain_word plain short make;
    }

blank_first : (window : List ℕ) (i next e : ℕ) → next ≡ i + 1 → i < e → e ≤ length window → get_or window i 0 ≡ 32
    → slice_range window i e ≡ 32 ∷ slice_range window next e
blank_first window i next e next_is some fits is =
    front window i e 32 some fits is ∙ ap (λ k. 32 ∷ slice_range window k e) (sym next_is)

-- if there are spaces at a and b, the bytes before e are three words with single spaces between them: the bytes before a, those
-- between a and b, and those between b and e
two_words : (window : List ℕ) (a i b j e : ℕ) → i ≡ a + 1 → i < b → j ≡ b + 1 → j < e → e ≤ length window
    → get_or window a 0 ≡ 32 → get_or window b 0 ≡ 32
    → take e window ≡ slice_range window 0 a ++ spaced (slice_range window i b ∷ slice_range window j e ∷ [])
two_words window a i b j e i_is ib j_is je fits blank_a blank_b =
    sym (between_from_start window e)
    ∙ cut window 0 a e (omega arith) (omega arith)
    ∙ ap (λ rest. slice_range window 0 a ++ rest)
    (blank_first window a i e i_is (omega arith) fits blank_a
    ∙ ap (λ rest. 32 ∷ rest) (cut window i b e (omega arith) (omega arith)
    ∙ ap (λ rest. slice_range window i b ++ rest) (blank_first window b j e j_is (omega arith) fits blank_b
    ∙ ap (λ rest. 32 ∷ rest) (sym (append-nil (slice_range window j e))))))

-- if there are spaces at a, b and d, the bytes before e are four words with single spaces between them: the bytes before a, those
-- between a and b, those between b and d, and those between d and e
pub three_words : (window : List ℕ) (a i b j d k e : ℕ) → i ≡ a + 1 → i < b → j ≡ b + 1 → j < d → k ≡ d + 1 → k < e → e ≤ length window
    → get_or window a 0 ≡ 32 → get_or window b 0 ≡ 32 → get_or window d 0 ≡ 32
    → take e window ≡ slice_range window 0 a ++ spaced (slice_range window i b ∷ slice_range window j d ∷ slice_range window k e ∷ [])
three_words window a i b j d k e i_is ib j_is jd k_is ke fits blank_a blank_b blank_d =
    sym (between_from_start window e)
    ∙ cut window 0 a e (omega arith) (omega arith)
    ∙ ap (λ rest. slice_range window 0 a ++ rest)
    (blank_first window a i e i_is (omega arith) fits blank_a
    ∙ ap (λ rest. 32 ∷ rest) (cut window i b e (omega arith) (omega arith)
    ∙ ap (λ rest. slice_range window i b ++ rest) (blank_first window b j e j_is (omega arith) fits blank_b
    ∙ ap (λ rest. 32 ∷ rest) (cut window j d e (omega arith) (omega arith)
    ∙ ap (λ rest. slice_range window j d ++ rest) (blank_first window d k e k_is (omega arith) fits blank_d
    ∙ ap (λ rest. 32 ∷ rest) (sym (append-nil (slice_range window k e))))))))

-- a line reads as a command with one number if the command's word is followed by a space at b and by the last number of the line,
-- from j on
pub is_read_one : SomeCase → OneCase → (window : List ℕ) (named : ReadNumber) (b j n len : ℕ) (row : CommandRow Command) (command : Command)
    → 32 ≤ length window → NamesTenant window named → named.end + 1 < b → b ≤ named.end + 6 → j ≡ b + 1
    → slice_range window (named.end + 1) b ≡ row.word → get_or window b 0 ≡ 32 → (last : IsLastNumber window j n len)
    → Contains tenant_rows row → IsPlainWord row.word → AllMake row.forms row.makes (slice_range window j last.end ∷ []) command
    → ReadsAs window named.value command len
is_read_one some only window named b j n len row command size names ib near j_is word_is blank last has plain make =
    let a = named.end in
    let e = last.end in
    is_read some only window (slice_range window 0 a) (slice_range window j e ∷ []) e len named.value row command (omega (arith, names.short, last.short)) (omega (arith, names.short, last.short)) last.ended
    (two_words window a (a + 1) b j e refl ib j_is last.some (omega (arith, names.short, last.short)) names.blank blank
    ∙ ap (λ word. slice_range window 0 a ++ spaced (word ∷ slice_range window j e ∷ [])) word_is)
    names.number has plain
    (All-cons IsPlainWord (slice_range window j e) [] (plain_number (slice_range window j e) n last.number) (All-nil IsPlainWord))
    make

-- a line reads as a command with two numbers if the command's word is followed by a space at b, a number from j up to d, a space
-- at d, and the last number of the line, from k on
pub is_read_two : SomeCase → OneCase → (window : List ℕ) (named : ReadNumber) (b j d k m n len : ℕ) (row : CommandRow Command) (command : Command)
    → 32 ≤ length window → NamesTenant window named → named.end + 1 < b → b ≤ named.end + 6 → j ≡ b + 1 → j < d → d ≤ j + 9 → k ≡ d + 1
    → slice_range window (named.end + 1) b ≡ row.word → get_or window b 0 ≡ 32
    → number_of (slice_range window j d) ≡ Some m → get_or window d 0 ≡ 32 → (last : IsLastNumber window k n len)
    → Contains tenant_rows row → IsPlainWord row.word
    → AllMake row.forms row.makes (slice_range window j d ∷ slice_range window k last.end ∷ []) command
    → ReadsAs window named.value command len
is_read_two some only window named b j d k m n len row command size names ib near j_is jd short k_is word_is blank m_is second last has plain make =
    let a = named.end in
    let e = last.end in
    is_read some only window (slice_range window 0 a) (slice_range window j d ∷ slice_range window k e ∷ []) e len named.value row command (omega (arith, names.short, last.short)) (omega (arith, names.short, last.short)) last.ended
    (three_words window a (a + 1) b j d k e refl ib j_is jd k_is last.some (omega (arith, names.short, last.short)) names.blank blank second
    ∙ ap (λ word. slice_range window 0 a ++ spaced (word ∷ slice_range window j d ∷ slice_range window k e ∷ [])) word_is)
    names.number has plain
    (All-cons IsPlainWord (slice_range window j d) (slice_range window k e ∷ []) (plain_number (slice_range window j d) m m_is)
    (All-cons IsPlainWord (slice_range window k e) [] (plain_number (slice_range window k e) n last.number) (All-nil IsPlainWord)))
    make

-- ---- arguments

pub one_number : (makes : ℕ → Command) (word : List ℕ) (n : ℕ) → number_of word ≡ Some n → AllMake (number ∷ []) makes (word ∷ []) (makes n)
one_number makes word n is = (n, ap (λ found. or_fault found Number) is, refl)

pub two_numbers : (makes : ℕ → ℕ → Command) (first second : List ℕ) (m n : ℕ) → number_of first ≡ Some m → number_of second ≡ Some n
    → AllMake (number ∷ number ∷ []) makes (first ∷ second ∷ []) (makes m n)
two_numbers makes first second m n m_is n_is =
    (m, ap (λ found. or_fault found Number) m_is, (n, ap (λ found. or_fault found Number) n_is, refl))

-- ---- the commands' words

pub alloc_plain : IsPlainWord (codes "alloc")
alloc_plain = (omega arith, All-from_recursion IsPlain (codes "alloc") (omega arith, (omega arith, (omega arith, (omega arith, (omega arith, tt))))))

pub free_plain : IsPlainWord (codes "free")
free_plain = (omega arith, All-from_recursion IsPlain (codes "free") (omega arith, (omega arith, (omega arith, (omega arith, tt)))))

pub take_plain : IsPlainWord (codes "take")
take_plain = (omega arith, All-from_recursion IsPlain (codes "take") (omega arith, (omega arith, (omega arith, (omega arith, tt)))))

pub give_plain : IsPlainWord (codes "give")
give_plain = (omega arith, All-from_recursion IsPlain (codes "give") (omega arith, (omega arith, (omega arith, (omega arith, tt)))))

pub read_plain : IsPlainWord (codes "read")
read_plain = (omega arith, All-from_recursion IsPlain (codes "read") (omega arith, (omega arith, (omega arith, (omega arith, tt)))))
