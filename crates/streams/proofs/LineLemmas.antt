-- The bytes before the first LF are one line. If there is no LF, all bytes are one line.
use Rattle.std.proofs.Common.{◌≡◌, ℕ, cond, zero, suc, ◌+◌, ◌<◌, ◌≤◌, ◌==◌, Bool, true, false, not, nat_lt, if◌then◌else◌, List, [], ◌∷◌, ◌++◌, Option, Some, None, length, take, drop, get_or, position, refl, ap, sym, ◌∙◌, arith, add-one}
use Rattle.std.specs.List.{position_from}
use Rattle.std.proofs.lemmas.Bool.{eqb-true, lt-ltb, le-ltb}
use Rattle.std.proofs.lemmas.List.Quantifiers.{position-Some}
use Rattle.std.proofs.lemmas.List.Sums.{prefix_len_is}
use Rattle.std.proofs.lemmas.Iterator.Adapters.{position_from-zero}
use Rattle.memchr.specs.Find.{IsFirstByte}
use Rattle.streams.specs.Lines.{IsOneLine}

abbrev pub is_line_feed : ℕ → Bool
is_line_feed b = b == 10

pub one_line_append : (xs ys : List ℕ) → IsOneLine xs → IsOneLine ys → IsOneLine (xs ++ ys)
one_line_append [] ys h k = k
one_line_append (b ∷ xs) ys h k = (h.0, one_line_append xs ys h.1 k)

cut_at : (bytes : List ℕ) (i : ℕ) → i < length bytes → is_line_feed (get_or bytes i 0) ≡ true → ((k : ℕ) → k < i → is_line_feed (get_or bytes k 0) ≡ false)
    → (IsOneLine (take i bytes)) × (bytes ≡ (take i bytes ++ 10 ∷ []) ++ drop (suc i) bytes)
cut_at [] i h here before = absurd (omega arith)
cut_at (b ∷ bytes) zero h here before = (tt, ap (λ c. c ∷ bytes) (eqb-true b 10 here))
cut_at (b ∷ bytes) (suc i) h here before =
    let later = cut_at bytes i (omega arith) here (λ k below. before (suc k) (omega arith)) in
    ((before 0 (omega arith), later.0), ap (λ more. b ∷ more) later.1)

-- the bytes before the first LF are one line, which the LF ends
pub found_cut : (bytes : List ℕ) (i : ℕ) → position is_line_feed bytes ≡ Some i
    → (IsOneLine (take i bytes)) × (bytes ≡ (take i bytes ++ 10 ∷ []) ++ drop (i + 1) bytes)
found_cut bytes i found =
    let facts = position-Some is_line_feed bytes i 0 found in
    rw add-one (cut_at bytes i facts.0 facts.1 facts.2)

none_first : (test : Bool) (n : ℕ) (later : Option ℕ) → cond test (Some n) later ≡ None → (test ≡ false) × (later ≡ None)
none_first true n later h = cc
none_first false n later h = (refl, h)

none_from : (n : ℕ) (bytes : List ℕ) → position_from is_line_feed n bytes ≡ None → IsOneLine bytes
none_from n [] h = tt
none_from n (b ∷ bytes) h =
    let facts = none_first (b == 10) n (position_from is_line_feed (n + 1) bytes) h in
    (facts.0, none_from (n + 1) bytes facts.1)

-- bytes without an LF are one line
pub none_cut : (bytes : List ℕ) → position is_line_feed bytes ≡ None → IsOneLine bytes
none_cut bytes none = none_from 0 bytes (sym (position_from-zero is_line_feed bytes) ∙ none)

fails : (test : Bool) → ¬ (test ≡ true) → not test ≡ true
fails true none = absurd (none refl)
fails false none = refl

-- Suppose that no byte before index n passes the test, and that the byte at n passes it unless n is the end. Then `position`
-- returns n, or None if n is the end.
first_at : (p : ℕ → Bool) (bytes : List ℕ) (n : ℕ) → n ≤ length bytes → ((k : ℕ) → k < n → ¬ (p (get_or bytes k 0) ≡ true))
    → (n < length bytes → p (get_or bytes n 0) ≡ true) → position p bytes ≡ (if nat_lt n (length bytes) then Some n else None)
first_at p bytes n within before at =
    ap (λ m. if nat_lt m (length bytes) then Some m else None)
    (prefix_len_is (λ b. not (p b)) bytes n 0 within (λ k below. fails (p (get_or bytes k 0)) (before k below)) (λ some. ap not (at some)))

-- a result that meets `IsFirstByte` is the result of `position`: the index of the first byte that passes the test, or None
pub first_byte : (p : ℕ → Bool) (bytes : List ℕ) (found : Option ℕ) → IsFirstByte p bytes found → found ≡ position p bytes
first_byte p bytes (Some n) is =
    sym (first_at p bytes n (omega (arith, is.0.high)) (λ k below. is.0.before k (omega arith) below) (λ _. is.1)
    ∙ ap (λ test. if test then Some n else None) (lt-ltb n (length bytes) is.0.high))
first_byte p bytes None is =
    sym (first_at p bytes (length bytes) (omega arith) (λ k below. is k (omega arith) below) (λ some. absurd (omega arith))
    ∙ ap (λ test. if test then Some (length bytes) else None) (le-ltb (length bytes) (length bytes) (omega arith)))
