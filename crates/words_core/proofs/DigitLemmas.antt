-- The decimal text of a number is its first one or two digits and then pairs of digits.
use Rattle.std.proofs.Common.{◌≡◌, ℕ, zero, suc, ◌+◌, ◌*◌, ◌/◌, ◌%◌, ◌^◌, ◌<◌, ◌≤◌, Option, Some, None, List, [], ◌∷◌, ◌++◌, get_or, length, take, drop, map, refl, sym, ◌∙◌, ap, arith, append_assoc, length-append}
use Rattle.std.proofs.Math.Nat.{pow-suc, one-le-pow}
use Rattle.std.proofs.Math.Seq.{take-append_seam}
use Rattle.std.proofs.lemmas.List.{take-append-drop, length-take-le}
use Rattle.std.specs.Fmt.{decimal}
use Rattle.std.specs.Option.{IfNone, IfSome, unwrap_or}
use Rattle.std.specs.List.{range_with_len}
use Rattle.std.proofs.lemmas.Fmt.{decimal_digit, decimal_step, length-decimal-le}
use Rattle.std.proofs.lemmas.List.FromFn.{get_or-map-range_with_len}
use Rattle.words_core.specs.Digits.{two_digits, five_digits}
use Rattle.words_core.specs.declared.window.TheConstants.{PAIRS}

-- the two digits for this number in the table `PAIRS`
abbrev pub pair : ℕ → List ℕ
pair n = get_or PAIRS (2 * n) 0 ∷ get_or PAIRS (2 * n + 1) 0 ∷ []

pairs_are : map pair (range_with_len 0 100) ≡ map two_digits (range_with_len 0 100)
pairs_are = refl

pub pair_at : (n : ℕ) → n < 100 → pair n ≡ two_digits n
pair_at n below =
    sym (get_or-map-range_with_len pair 0 100 n n [] below (omega arith))
    ∙ ap (λ pairs. get_or pairs n []) pairs_are
    ∙ get_or-map-range_with_len two_digits 0 100 n n [] below (omega arith)

decimal_two : (n : ℕ) → 10 ≤ n → n < 100 → decimal n ≡ two_digits n
decimal_two n low high = rw (decimal_step n low (omega arith), decimal_digit (n / 10) (omega arith))

-- the digits of a number n of 100 or more are the digits of n / 100 and then the two digits of n % 100
decimal_last_two : (n : ℕ) → 100 ≤ n → n < 2 ^ 32 → decimal n ≡ decimal (n / 100) ++ two_digits (n % 100)
decimal_last_two n low high =
    let a : n / 10 / 10 ≡ n / 100 = omega arith in
    let b : n / 10 % 10 ≡ n % 100 / 10 = omega arith in
    let c : n % 10 ≡ n % 100 % 10 = omega arith in
    rw (decimal_step n (omega arith) (omega arith), decimal_step (n / 10) (omega arith) (omega arith), append_assoc, a, b, ← c)

pub put_one : (front : List ℕ) (n : ℕ) → n < 10 → front ++ (48 + n) ∷ [] ≡ front ++ decimal n
put_one front n high = ap (λ text. front ++ text) (sym (decimal_digit n high))

pub put_two : (front : List ℕ) (n : ℕ) → 10 ≤ n → n < 100 → front ++ two_digits n ≡ front ++ decimal n
put_two front n low high = ap (λ text. front ++ text) (sym (decimal_two n low high))

pub put_three : (front : List ℕ) (n : ℕ) → 100 ≤ n → n < 1000
    → (front ++ (48 + n / 100) ∷ []) ++ two_digits (n % 100) ≡ front ++ decimal n
put_three front n low high = rw (decimal_last_two n low (omega arith), decimal_digit (n / 100) (omega arith), append_assoc)

pub put_four : (front : List ℕ) (n : ℕ) → 1000 ≤ n → n < 10000
    → (front ++ two_digits (n / 100)) ++ two_digits (n % 100) ≡ front ++ decimal n
put_four front n low high = rw (decimal_last_two n (omega arith) (omega arith), decimal_two (n / 100) (omega arith) (omega arith), append_assoc)

five_more : (n : ℕ) → 10000 ≤ n → n < 2 ^ 32
    → decimal n ≡ decimal (n / 10000) ++ two_digits (n / 100 % 100) ++ two_digits (n % 100)
five_more n low high =
    let a : n / 100 / 100 ≡ n / 10000 = omega arith in
    rw (decimal_last_two n (omega arith) high, decimal_last_two (n / 100) (omega arith) (omega arith), a)

pub put_five : (front : List ℕ) (n : ℕ) → 10000 ≤ n → n < 100000 → front ++ five_digits n ≡ front ++ decimal n
put_five front n low high =
    rw (five_more n low (omega arith), decimal_digit (n / 10000) (omega arith))

pub put_more : (front : List ℕ) (n : ℕ) → 100000 ≤ n → n < 2 ^ 32
    → (front ++ decimal (n / 100000)) ++ five_digits (n % 100000) ≡ front ++ decimal n
put_more front n low high =
    let a : n / 10000 / 10 ≡ n / 100000 = omega arith in
    let b : n / 10000 % 10 ≡ n % 100000 / 10000 = omega arith in
    let c : n / 100 % 100 ≡ n % 100000 / 100 % 100 = omega arith in
    let d : n % 100 ≡ n % 100000 % 100 = omega arith in
    rw (five_more n (omega arith) high, decimal_step (n / 10000) (omega arith) (omega arith), a, b, c, d) (simp append_assoc)

pub ruleset digit_rules = (put_one, put_two, put_three, put_four, put_five, put_more)

-- if n is at least 10^k and below 10^(k + 1), it has k + 1 digits
length_more : (k n : ℕ) → 10 ^ k ≤ n → n < 10 * 10 ^ k → n < 2 ^ 64 → k + 1 ≡ length (decimal n)
length_more zero n low high fits = sym (ap length (decimal_digit n (omega arith)))
length_more (suc k) n low high fits =
    let power : 10 ^ suc k ≡ 10 ^ k * 10 = pow-suc 10 k in
    let step : length (decimal n) ≡ length (decimal (n / 10)) + 1 =
    ap length (decimal_step n (omega (arith, one-le-pow k 10 (omega arith))) fits) ∙ length-append _ _ in
    omega (arith, step, length_more k (n / 10) (omega arith) (omega arith) (omega arith))

-- the number of digits of n is its decimal logarithm, rounded down, plus 1; 0 has no logarithm and one digit
pub digits_counted : (n : ℕ) (log : Option ℕ) → n < 2 ^ 64 → IfNone log (n ≡ 0) → IfSome log (λ k. 10 ^ k ≤ n) → IfSome log (λ k. n < 10 * 10 ^ k)
    → unwrap_or log 0 + 1 ≡ length (decimal n)
digits_counted n None fits none low high = sym (ap length (decimal_digit n (omega arith)))
digits_counted n (Some k) fits none low high = length_more k n low high fits

-- If the digits were written up to `end` and no byte before them changed, the first `end` bytes are the first `at` old bytes and
-- then the digits. `at` is the index at which the digits begin.
pub written_before : (start at end : ℕ) (digits old new : List ℕ) → start + length digits ≡ end → at + length digits ≡ end → end ≤ length old
    → take start new ≡ take start old → drop start new ≡ digits ++ drop end old → take end new ≡ take at old ++ digits
written_before start at end digits old new starts ends within before written =
    let same : start ≡ at = omega arith in
    let front : length (take at old ++ digits) ≡ end =
    length-append _ _ ∙ ap (λ n. n + length digits) (length-take-le at old (omega arith)) ∙ ends in
    ap (take end) (sym (take-append-drop start new))
    ∙ ap (λ front. take end (front ++ drop start new)) (before ∙ ap (λ n. take n old) same)
    ∙ ap (λ behind. take end (take at old ++ behind)) written
    ∙ ap (take end) (sym (append_assoc (take at old) digits _))
    ∙ ap (λ n. take n ((take at old ++ digits) ++ drop end old)) (sym front)
    ∙ take-append_seam _ _

pub length_short : (n : ℕ) → n < 1000 → length (decimal n) ≤ 3
length_short n small = length-decimal-le 3 n (omega arith) (omega arith) (omega arith)
