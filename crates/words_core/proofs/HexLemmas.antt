-- If bytes are written in hex one part after another, the digits of the parts together are the digits of all bytes.
use Rattle.std.proofs.Common.{◌≡◌, ℕ, ◌+◌, ◌/◌, ◌%◌, ◌<◌, List, [], ◌∷◌, ◌++◌, length, get_or, take, map, refl, sym, ◌∙◌, ap, arith, append_assoc, append-nil}
use Rattle.std.specs.List.{range_with_len}
use Rattle.std.proofs.lemmas.List.{take_more}
use Rattle.std.proofs.lemmas.List.FromFn.{get_or-map-range_with_len}
use Rattle.hex.specs.Hex.{encode_with, encode_lower, lower_digits}
use Rattle.words_core.specs.declared.hex_digits.TheConstants.{HEX_PAIRS}

encode_append : (xs ys : List ℕ) → encode_lower (xs ++ ys) ≡ encode_lower xs ++ encode_lower ys
unfolding encode_with
encode_append [] ys = refl
encode_append (x ∷ xs) ys = ap (λ rest. get_or lower_digits (x / 16) 0 ∷ get_or lower_digits (x % 16) 0 ∷ rest) (encode_append xs ys)

pairs_are : HEX_PAIRS ≡ map (λ b. encode_lower (b ∷ [])) (range_with_len 0 256)
unfolding encode_with
pairs_are = refl

pub pair_of : (b : ℕ) (none : List ℕ) → b < 256 → get_or HEX_PAIRS b none ≡ encode_lower (b ∷ [])
pair_of b none below =
    ap (λ table. get_or table b none) pairs_are ∙ get_or-map-range_with_len (λ k. encode_lower (k ∷ [])) 0 256 b b none below (omega arith)

pub hex_none : (front : List ℕ) → front ≡ front ++ encode_lower []
unfolding encode_with
hex_none front = sym (append-nil front)

-- if the digits of the first i bytes are written, and then those of byte i, the digits of the first i + 1 bytes are written
pub hex_more : (new old front bytes pair : List ℕ) (i : ℕ) → i < length bytes → new ≡ old ++ pair
    → old ≡ front ++ encode_lower (take i bytes) → pair ≡ encode_lower (get_or bytes i 0 ∷ [])
    → new ≡ front ++ encode_lower (take (i + 1) bytes)
hex_more new old front bytes pair i within new_is old_is pair_is =
    new_is
    ∙ (λ t. old_is t ++ pair_is t)
    ∙ append_assoc front (encode_lower (take i bytes)) (encode_lower (get_or bytes i 0 ∷ []))
    ∙ ap (λ text. front ++ text)
    (sym (encode_append (take i bytes) (get_or bytes i 0 ∷ [])) ∙ ap encode_lower (sym (take_more bytes i 0 within)))

-- If the written text and the digits of the rest are together `all`, this is still true after `part`, the front of the rest, is
-- written. The new rest is `behind`.
pub hex_part : (new old all rest part behind : List ℕ) → new ≡ old ++ encode_lower part → rest ≡ part ++ behind
    → old ++ encode_lower rest ≡ all → new ++ encode_lower behind ≡ all
hex_part new old all rest part behind new_is rest_is is =
    ap (λ front. front ++ encode_lower behind) new_is
    ∙ append_assoc old (encode_lower part) (encode_lower behind)
    ∙ ap (λ text. old ++ text) (sym (encode_append part behind) ∙ ap encode_lower (sym rest_is))
    ∙ is

-- the two digits of each of four bytes, one after another, are the digits of the four bytes
pub hex_four : (xs p q r s : List ℕ) → length xs ≡ 4
    → p ≡ encode_lower (get_or xs 0 0 ∷ []) → q ≡ encode_lower (get_or xs 1 0 ∷ [])
    → r ≡ encode_lower (get_or xs 2 0 ∷ []) → s ≡ encode_lower (get_or xs 3 0 ∷ [])
    → get_or p 0 0 ∷ get_or p 1 0 ∷ get_or q 0 0 ∷ get_or q 1 0 ∷ get_or r 0 0 ∷ get_or r 1 0 ∷ get_or s 0 0 ∷ get_or s 1 0 ∷ []
    ≡ encode_lower xs
unfolding encode_with
hex_four (a ∷ b ∷ c ∷ d ∷ []) p q r s four p_is q_is r_is s_is = rw (p_is, q_is, r_is, s_is) refl
hex_four [] p q r s four p_is q_is r_is s_is = absurd (omega arith)
hex_four (a ∷ []) p q r s four p_is q_is r_is s_is = absurd (omega arith)
hex_four (a ∷ b ∷ []) p q r s four p_is q_is r_is s_is = absurd (omega arith)
hex_four (a ∷ b ∷ c ∷ []) p q r s four p_is q_is r_is s_is = absurd (omega arith)
hex_four (a ∷ b ∷ c ∷ d ∷ e ∷ more) p q r s four p_is q_is r_is s_is = absurd (omega arith)
