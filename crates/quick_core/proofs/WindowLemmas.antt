-- How parts of a list are joined, and the index of the first line feed in a list of bytes.
use Rattle.std.proofs.Common.{◌≡◌, ℕ, ◌+◌, ◌-◌, ◌<◌, ◌≤◌, true, not, ◌==◌, nat_lt, if◌then◌else◌, List, [], ◌∷◌, ◌++◌, length, get_or, take, drop, Some, None, sym, ◌∙◌, ap, arith}
use Rattle.std.specs.List.{slice_range, position}
use Rattle.std.proofs.lemmas.Bool.Decides.{nat_tests}
use Rattle.std.proofs.lemmas.List.{take-append-drop, take-take, drop-take, drop-drop}
use Rattle.std.proofs.lemmas.List.Edits.{between_more, between_none}
use Rattle.std.proofs.lemmas.List.Sums.{prefix_len_is}

pub cut : (xs : List ℕ) (i j e : ℕ) → i ≤ j → j ≤ e → slice_range xs i e ≡ slice_range xs i j ++ slice_range xs j e
cut xs i j e low high =
    sym (take-append-drop (j - i) (slice_range xs i e))
    ∙ (λ t. take-take (j - i) (e - i) (drop i xs) (omega arith) t ++ rest t) where
      rest : drop (j - i) (take (e - i) (drop i xs)) ≡ slice_range xs j e
      rest =
          let sizes : e - i ≡ (j - i) + (e - j) = omega arith in
          let start : i + (j - i) ≡ j = omega arith in
          ap (λ n. drop (j - i) (take n (drop i xs))) sizes
          ∙ drop-take (j - i) (e - j) (drop i xs)
          ∙ ap (take (e - j)) (drop-drop (j - i) i xs ∙ ap (λ n. drop n xs) start)

-- a part that is not empty is its first byte and then the part after that byte
pub front : (xs : List ℕ) (i e b : ℕ) → i < e → e ≤ length xs → get_or xs i 0 ≡ b → slice_range xs i e ≡ b ∷ slice_range xs (i + 1) e
front xs i e b some fits is =
    cut xs i (i + 1) e (omega arith) (omega arith)
    ∙ ap (λ one. one ++ slice_range xs (i + 1) e)
    (between_more xs i i 0 (omega arith) (omega arith) ∙ (λ t. between_none xs i t ++ is t ∷ []))

-- if the byte at e is b, the part from i up to e + 1 is the part up to e and then b
pub one_more : (xs : List ℕ) (i e b : ℕ) (part : List ℕ) → i ≤ e → e < length xs → slice_range xs i e ≡ part → get_or xs e 0 ≡ b
    → slice_range xs i (e + 1) ≡ part ++ b ∷ []
one_more xs i e b part low within part_is is = between_more xs i e 0 low within ∙ (λ t. part_is t ++ is t ∷ [])

-- if no byte before index `e` is a line feed and the byte at `e` is one, the first line feed is at index `e`
pub first_line_feed : (bytes : List ℕ) (e : ℕ) → e < length bytes → ((k : ℕ) → k < e → not (get_or bytes k 0 == 10) ≡ true)
    → get_or bytes e 0 ≡ 10 → position (λ b. b == 10) bytes ≡ Some e
first_line_feed bytes e within before at =
    ap (λ n. if nat_lt n (length bytes) then Some n else None)
    (prefix_len_is (λ b. not (b == 10)) bytes e 0 (omega arith) before (λ _. ap (λ b. not (b == 10)) at))
    ∙ found where
      found : (if nat_lt e (length bytes) then Some e else None) ≡ Some e
      found = grind (arith, nat_tests)
