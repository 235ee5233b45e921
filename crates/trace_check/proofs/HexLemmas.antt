-- Pairs of lower-case hex digits, and the bytes that they spell.
use Rattle.std.proofs.Common.{◌≡◌, ℕ, zero, suc, ◌+◌, ◌*◌, ◌/◌, ◌%◌, ◌<◌, ◌≤◌, List, [], ◌∷◌, ◌++◌, length, get_or, map, cond, take, drop, append_assoc, Some, None, Ok, refl, sym, ap, ◌∙◌, arith}
use Rattle.std.specs.Prelude.{nat_lt}
use Rattle.std.specs.List.{range_with_len}
use Rattle.std.proofs.lemmas.Slice.Eq.{bytes_eq-Decides}
use Rattle.std.proofs.lemmas.List.FromFn.{get_or-map-range_with_len}
use Rattle.trace_check.specs.Replies.{bytes_again, bytes_of}
use Rattle.trace_check.proofs.BodyLemmas.{bytes_are, few_digits}
use Rattle.hex.specs.Hex.{encode_with, encode_lower, decode_of, lower_digits, IsBytes}
use Rattle.hex.proofs.HexLemmas.{decode_of-encode_lower, decode_of-ok}

-- ---- digits

abbrev digit_at : ℕ → ℕ
digit_at v = cond (nat_lt v 10) (v + 48) (v + 87)

digits_are : lower_digits ≡ map digit_at (range_with_len 0 16)
digits_are = refl

pub digit_is : (v : ℕ) → v < 16 → get_or lower_digits v 0 ≡ digit_at v
digit_is v below = ap (λ table. get_or table v 0) digits_are ∙ get_or-map-range_with_len digit_at 0 16 v v 0 below (omega arith)

-- ---- a byte

pub pair_is : (h l : ℕ) (pair : List ℕ) → length pair ≡ 2 → h < 16 → l < 16 → get_or lower_digits h 0 ≡ get_or pair 0 0
    → get_or lower_digits l 0 ≡ get_or pair 1 0 → encode_lower ((h * 16 + l) ∷ []) ≡ pair
unfolding encode_with
pair_is h l (high ∷ low ∷ []) two h_small l_small h_is l_is =
    let quotient : (h * 16 + l) / 16 ≡ h = omega (arith, l_small) in
    let remainder : (h * 16 + l) % 16 ≡ l = omega (arith, l_small) in
    (λ i. ((ap (λ d. get_or lower_digits d 0) quotient ∙ h_is) i) ∷ ((ap (λ d. get_or lower_digits d 0) remainder ∙ l_is) i) ∷ [])
pair_is h l [] two h_small l_small h_is l_is = absurd (omega (arith, two))
pair_is h l (high ∷ []) two h_small l_small h_is l_is = absurd (omega (arith, two))
pair_is h l (high ∷ low ∷ more ∷ rest) two h_small l_small h_is l_is = absurd (omega (arith, two))

-- if a pair spells a byte, its first digit is the digit of byte / 16, and its second is the digit of byte % 16
pub pair_parts : (byte : ℕ) (pair : List ℕ) → encode_lower (byte ∷ []) ≡ pair
    → (get_or lower_digits (byte / 16) 0 ≡ get_or pair 0 0) × (get_or lower_digits (byte % 16) 0 ≡ get_or pair 1 0)
unfolding encode_with
pair_parts byte pair is = (ap (λ pair. get_or pair 0 0) is, ap (λ pair. get_or pair 1 0) is)

-- ---- a word

encode_append : (xs ys : List ℕ) → encode_lower (xs ++ ys) ≡ encode_lower xs ++ encode_lower ys
unfolding encode_with
encode_append [] ys = refl
encode_append (x ∷ xs) ys = ap (λ rest. get_or lower_digits (x / 16) 0 ∷ get_or lower_digits (x % 16) 0 ∷ rest) (encode_append xs ys)

pub none_yet : (word : List ℕ) → encode_lower [] ++ word ≡ word
unfolding encode_with
none_yet word = refl

-- Let the word be the digits of `front` and then `rest`, which begins with a pair. If the pair spells a byte, the word is the
-- digits of `front` and this byte, and then what follows the pair.
pub byte_more : (front rest pair behind word : List ℕ) (byte : ℕ) → encode_lower front ++ rest ≡ word → pair ++ behind ≡ rest
    → encode_lower (byte ∷ []) ≡ pair → encode_lower (front ++ byte ∷ []) ++ behind ≡ word
byte_more front rest pair behind word byte is cut pair_is =
    ap (λ t. t ++ behind) (encode_append front (byte ∷ []))
    ∙ append_assoc (encode_lower front) (encode_lower (byte ∷ [])) behind
    ∙ ap (λ t. encode_lower front ++ t) (ap (λ t. t ++ behind) pair_is ∙ cut)
    ∙ is

pub bytes_more : (front : List ℕ) (byte : ℕ) → IsBytes front → byte < 256 → IsBytes (front ++ byte ∷ [])
bytes_more [] byte are small zero = small
bytes_more [] byte are small (suc i) = omega arith
bytes_more (b ∷ front) byte are small zero = are 0
bytes_more (b ∷ front) byte are small (suc i) = bytes_more front byte (λ j. are (suc j)) small i

-- a word of at most 128 digits that encodes some bytes is decoded to these bytes
pub word_is : (word bytes : List ℕ) → length word ≤ 128 → IsBytes bytes → encode_lower bytes ≡ word → bytes_of word ≡ Some bytes
unfolding bytes_of
word_is word bytes few are is =
    let decoded : decode_of word ≡ Ok bytes = ap decode_of (sym is) ∙ decode_of-encode_lower bytes are in
    ap (λ test. cond test (bytes_again word (decode_of word)) None) (few_digits (length word) few)
    ∙ ap (bytes_again word) decoded
    ∙ ap (λ test. cond test (Some bytes) None) ((bytes_eq-Decides (encode_lower bytes) word).1 is)

-- if the digits of some bytes begin with the digits of `xs` and then a pair, the pair spells a byte
split_at_byte : (xs bs : List ℕ) (pair behind : List ℕ) → length pair ≡ 2 → IsBytes bs → encode_lower bs ≡ encode_lower xs ++ (pair ++ behind)
    → (byte : ℕ) × (byte < 256) × (encode_lower (byte ∷ []) ≡ pair)
unfolding encode_with
split_at_byte [] [] (high ∷ low ∷ []) behind two are is = absurd cc
split_at_byte [] (b ∷ bs) (high ∷ low ∷ []) behind two are is = (b, are 0, ap (λ (t : List ℕ). take 2 t) is)
split_at_byte (x ∷ xs) [] (high ∷ low ∷ []) behind two are is = absurd cc
split_at_byte (x ∷ xs) (b ∷ bs) (high ∷ low ∷ []) behind two are is =
    split_at_byte xs bs (high ∷ low ∷ []) behind two (λ i. are (suc i)) (ap (λ (t : List ℕ). drop 2 t) is)
split_at_byte xs bs [] behind two are is = absurd (omega (arith, two))
split_at_byte xs bs (high ∷ []) behind two are is = absurd (omega (arith, two))
split_at_byte xs bs (high ∷ low ∷ more ∷ rest) behind two are is = absurd (omega (arith, two))

-- a word is not decoded if it begins with the digits of `front` and then a pair that spells no byte
pub no_word : (word front pair behind : List ℕ) → length pair ≡ 2 → encode_lower front ++ (pair ++ behind) ≡ word
    → ((byte : ℕ) → byte < 256 → encode_lower (byte ∷ []) ≡ pair → ⊥) → bytes_of word ≡ None
no_word word front pair behind two is none = elim (bytes_of word) as (λ r. bytes_of word ≡ r → r ≡ None) [
  | None ↦ λ _. refl
  | (Some bytes) ↦ λ e.
      let found = split_at_byte front bytes pair behind two (decode_of-ok word bytes (bytes_are word bytes e).0).3 ((bytes_are word bytes e).1 ∙ sym is) in
      absurd (none found.0 found.1 found.2)
] refl
