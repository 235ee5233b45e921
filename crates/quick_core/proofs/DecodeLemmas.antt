-- Hex digits can be decoded one part after another, and a `write` line that ends with hex digits reads as a write of the decoded
-- bytes.
use Rattle.std.proofs.Common.{◌≡◌, ℕ, ◌+◌, ◌-◌, ◌*◌, ◌<◌, ◌≤◌, true, nat_le, ◌&&◌, if◌then◌else◌, List, [], ◌∷◌, ◌++◌, codes, length, get_or, take, drop, map, Option, Some, None, Result, Ok, Err, refl, sym, ◌∙◌, ap, arith}
use Rattle.std.specs.List.{range_with_len, slice_range}
use Rattle.std.specs.Result.{result_unwrap_or}
use Rattle.std.proofs.lemmas.Bool.Decides.{nat_tests}
use Rattle.std.proofs.lemmas.List.Edits.{length-between, between_none}
use Rattle.std.proofs.lemmas.List.Elements.{All-nil, All-cons, All-weaker, All-from_recursion}
use Rattle.std.proofs.lemmas.List.FromFn.{get_or-map-range_with_len}
use Rattle.hex.specs.Hex.{◌>>=◌, decode_of, decode_pairs, hex_digit_value, is_hex_digit, pair_value}
use Rattle.hex.specs.declared.error.FromHexError.{FromHexError}
use Rattle.hex.proofs.HexLemmas.{decode_of-even, decode_pairs-ok}
use Rattle.words_core.specs.Commands.{or_fault, bytes_or_fault, bytes_argument, write_row}
use Rattle.words_core.specs.Numbers.{number_of}
use Rattle.words_core.specs.declared.event.Command.TheVariants.{Write}
use Rattle.words_core.specs.declared.event.LineFault.TheVariants.{Number, Hex}
use Rattle.quick_core.specs.Lines.{EndsLine, ReadsAs}
use Rattle.quick_core.specs.declared.decode.TheConstants.{HIGH_VALUES, LOW_VALUES}
use Rattle.quick_core.proofs.LineLemmas.{IsPlain, IsPlainWord, SomeCase, OneCase, spaced, is_read, three_words, plain_number}
use Rattle.quick_core.specs.Pairs.{Decodes}
use Rattle.quick_core.proofs.WindowLemmas.{cut, front}

-- ---- the tables

-- the entry of a table for a byte: `f` of its value as a hex digit, or 1024 if it is not a hex digit
abbrev tabled : (ℕ → ℕ) → Option ℕ → ℕ
tabled f (Some value) = f value
tabled f None = 1024

highs_are : HIGH_VALUES ≡ map (λ c. tabled (λ value. 16 * value) (hex_digit_value c)) (range_with_len 0 256)
highs_are = refl

lows_are : LOW_VALUES ≡ map (λ c. tabled (λ value. value) (hex_digit_value c)) (range_with_len 0 256)
lows_are = refl

high_at : (c : ℕ) → c < 256 → get_or HIGH_VALUES c 0 ≡ tabled (λ value. 16 * value) (hex_digit_value c)
high_at c below =
    ap (λ table. get_or table c 0) highs_are
    ∙ get_or-map-range_with_len (λ k. tabled (λ value. 16 * value) (hex_digit_value k)) 0 256 c c 0 below (omega arith)

low_at : (c : ℕ) → c < 256 → get_or LOW_VALUES c 0 ≡ tabled (λ value. value) (hex_digit_value c)
low_at c below =
    ap (λ table. get_or table c 0) lows_are
    ∙ get_or-map-range_with_len (λ k. tabled (λ value. value) (hex_digit_value k)) 0 256 c c 0 below (omega arith)

digit_small : (c value : ℕ) → hex_digit_value c ≡ Some value → value < 16
digit_small c value is = grind (arith, nat_tests)

pair_is : (a b i high low : ℕ) → hex_digit_value a ≡ Some high → hex_digit_value b ≡ Some low → pair_value a b i ≡ Ok (high * 16 + low)
pair_is a b i high low a_is b_is = rw (a_is, b_is) refl

-- if the sum of a high and a low entry is below 1024, it is the byte that the two digits encode
pair_of_sum : (a b pair : ℕ) (high low : Option ℕ) → hex_digit_value a ≡ high → hex_digit_value b ≡ low
    → pair ≡ tabled (λ value. 16 * value) high + tabled (λ value. value) low → pair < 1024
    → (pair < 256) × ((i : ℕ) → pair_value a b i ≡ Ok pair)
pair_of_sum a b pair (Some high) (Some low) a_is b_is is small = (
  omega (arith, digit_small a high a_is, digit_small b low b_is),
  λ i. pair_is a b i high low a_is b_is ∙ ap Ok (omega arith),
)
pair_of_sum a b pair (Some high) None a_is b_is is small = absurd (omega arith)
pair_of_sum a b pair None (Some low) a_is b_is is small = absurd (omega arith)
pair_of_sum a b pair None None a_is b_is is small = absurd (omega arith)

pub tabled_pair : (a b pair : ℕ) → a < 256 → b < 256 → pair ≡ get_or HIGH_VALUES a 0 + get_or LOW_VALUES b 0 → pair < 1024
    → (pair < 256) × ((i : ℕ) → pair_value a b i ≡ Ok pair)
tabled_pair a b pair a_byte b_byte is small =
    pair_of_sum a b pair (hex_digit_value a) (hex_digit_value b) refl refl (omega (arith, high_at a a_byte, low_at b b_byte)) small

high_small : (found : Option ℕ) (c : ℕ) → hex_digit_value c ≡ found → tabled (λ value. 16 * value) found ≤ 1024
high_small (Some value) c is = omega (arith, digit_small c value is)
high_small None c is = omega arith

low_small : (found : Option ℕ) (c : ℕ) → hex_digit_value c ≡ found → tabled (λ value. value) found ≤ 1024
low_small (Some value) c is = omega (arith, digit_small c value is)
low_small None c is = omega arith

pub high_few : (c : ℕ) → c < 256 → get_or HIGH_VALUES c 0 ≤ 1024
high_few c byte = omega (arith, high_at c byte, high_small (hex_digit_value c) c refl)

pub low_few : (c : ℕ) → c < 256 → get_or LOW_VALUES c 0 ≤ 1024
low_few c byte = omega (arith, low_at c byte, low_small (hex_digit_value c) c refl)

-- ---- parts of a text that are decoded one after another

pub decodes_none : (text : List ℕ) (from end : ℕ) → end ≤ from → Decodes text from end []
unfolding decode_pairs
decodes_none text from end low i = let none : end - from ≡ 0 = omega arith in ap (λ n. decode_pairs i (take n (drop from text))) none

pub decodes_pair : (text : List ℕ) (at pair : ℕ) → at + 2 ≤ length text
    → ((i : ℕ) → pair_value (get_or text at 0) (get_or text (at + 1) 0) i ≡ Ok pair) → Decodes text at (at + 2) (pair ∷ [])
unfolding decode_pairs
decodes_pair text at pair within is i =
    ap (decode_pairs i) (digits) ∙ ap (λ read. read >>= (λ byte. Ok (byte ∷ []))) (is i) where
      last : slice_range text (at + 1 + 1) (at + 2) ≡ []
      last = ap (slice_range text (at + 1 + 1)) (omega arith) ∙ between_none text (at + 1 + 1)

      digits : slice_range text at (at + 2) ≡ get_or text at 0 ∷ get_or text (at + 1) 0 ∷ []
      digits =
          front text at (at + 2) (get_or text at 0) (omega arith) within refl
          ∙ ap (λ rest. get_or text at 0 ∷ rest)
          (front text (at + 1) (at + 2) (get_or text (at + 1) 0) (omega arith) within refl
          ∙ ap (λ rest. get_or text (at + 1) 0 ∷ rest) last)

decode_append : (i : ℕ) (text more bytes others : List ℕ) → decode_pairs i text ≡ Ok bytes → ((k : ℕ) → decode_pairs k more ≡ Ok others)
    → decode_pairs i (text ++ more) ≡ Ok (bytes ++ others)
unfolding decode_pairs
decode_append i [] more bytes others is are = are i ∙ ap (λ read. Ok (result_unwrap_or read [] ++ others)) is
decode_append i (x ∷ []) more bytes others is are = absurd cc
decode_append i (x ∷ y ∷ text) more bytes others is are =
    step (pair_value x y i) (decode_pairs (i + 2) text) (decode_pairs (i + 2) (text ++ more))
    (λ rest. λ read. decode_append (i + 2) text more rest others read are) is where
      step : (pair : Result ℕ FromHexError) (old new : Result (List ℕ) FromHexError)
          → ((rest : List ℕ) → old ≡ Ok rest → new ≡ Ok (rest ++ others))
          → (pair >>= (λ byte. old >>= (λ rest. Ok (byte ∷ rest)))) ≡ Ok bytes
          → (pair >>= (λ byte. new >>= (λ rest. Ok (byte ∷ rest)))) ≡ Ok (bytes ++ others)
      step (Ok byte) (Ok rest) new longer is =
          ap (λ read. read >>= (λ rest. Ok (byte ∷ rest))) (longer rest refl)
          ∙ ap (λ read. Ok (result_unwrap_or read [] ++ others)) is
      step (Ok byte) (Err e) new longer is = absurd cc
      step (Err e) old new longer is = absurd cc

-- if two adjacent parts of a text decode to bytes, both parts together decode to the bytes of the first part and then those of
-- the second
pub decodes_more : (text : List ℕ) (from mid stop end : ℕ) (bytes others all : List ℕ) → from ≤ mid → mid ≤ stop → end ≡ stop
    → Decodes text from mid bytes → Decodes text mid stop others → all ≡ bytes ++ others → Decodes text from end all
decodes_more text from mid stop end bytes others all low high end_is first second all_is i =
    ap (λ e. decode_pairs i (slice_range text from e)) end_is
    ∙ ap (decode_pairs i) (cut text from mid stop low high)
    ∙ decode_append i (slice_range text from mid) (slice_range text mid stop) bytes others (first i) second
    ∙ ap Ok (sym all_is)

-- ---- the line

hex_plain : (b : ℕ) → is_hex_digit b ≡ true → IsPlain b
hex_plain b digit = grind (arith, nat_tests)

write_plain : IsPlainWord (codes "write")
write_plain = (omega arith, All-from_recursion IsPlain (codes "write") (omega arith, (omega arith, (omega arith, (omega arith, (omega arith, tt))))))

hex_argument : (word bytes : List ℕ) → decode_pairs 0 word ≡ Ok bytes → length word ≡ 2 * length bytes → 0 < length bytes → length bytes ≤ 64
    → bytes_argument 64 word ≡ Ok (record { items = bytes })
hex_argument word bytes is twice some few =
    let test : (nat_le 2 (length word) && nat_le (length word) 128) ≡ true = grind (arith, nat_tests) in
    ap (λ t. if t then bytes_or_fault (decode_of word) else Err Hex) test
    ∙ ap bytes_or_fault (decode_of-even word (omega arith) ∙ is)

pub is_read_hex : SomeCase → OneCase → (rest : List ℕ) (a i b j d k e len t n : ℕ) (bytes : List ℕ)
    → i ≡ a + 1 → i < b → j ≡ b + 1 → j < d → k ≡ d + 1 → k < e → e ≤ k + 128 → e ≤ length rest → e ≤ 255
    → number_of (slice_range rest 0 a) ≡ Some t → get_or rest a 0 ≡ 32 → slice_range rest i b ≡ codes "write" → get_or rest b 0 ≡ 32
    → number_of (slice_range rest j d) ≡ Some n → get_or rest d 0 ≡ 32 → decode_pairs 0 (slice_range rest k e) ≡ Ok bytes → EndsLine rest e len
    → ReadsAs rest t (Write n (record { items = bytes })) len
is_read_hex some only rest a i b j d k e len t n bytes i_is ib j_is jd k_is ke most fits few first_is blank_a word_is blank_b n_is blank_d bytes_are ends =
    let word = slice_range rest k e in
    let (digits, twice, _) = decode_pairs-ok 0 word bytes bytes_are in
    let size : length word ≡ e - k = length-between rest k e (omega arith) in
    let plain : IsPlainWord word = (omega arith, All-weaker (λ x. is_hex_digit x ≡ true) IsPlain hex_plain word digits) in
    is_read some only rest (slice_range rest 0 a) (slice_range rest j d ∷ word ∷ []) e len t write_row (Write n (record { items = bytes })) fits few ends
    (three_words rest a i b j d k e i_is ib j_is jd k_is ke fits blank_a blank_b blank_d
    ∙ ap (λ name. slice_range rest 0 a ++ spaced (name ∷ slice_range rest j d ∷ word ∷ [])) word_is)
    first_is (3, omega arith, refl) write_plain
    (All-cons IsPlainWord (slice_range rest j d) (word ∷ []) (plain_number (slice_range rest j d) n n_is)
    (All-cons IsPlainWord word [] plain (All-nil IsPlainWord)))
    (n, ap (λ found. or_fault found Number) n_is, (record { items = bytes }, hex_argument word bytes bytes_are twice (omega arith) (omega arith), refl))
