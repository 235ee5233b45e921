-- Lemmas that say how many of the numbers below a bound pass a test. They are about the halves of blocks, multiples, two tests,
-- blocks that share no frame, and lists.
use Rattle.std.proofs.Common.{◌≡◌, ℕ, zero, suc, ◌+◌, ◌-◌, ◌*◌, ◌/◌, ◌%◌, ◌^◌, ◌<◌, ◌≤◌, Bool, true, false, not, ◌&&◌, ◌||◌, eqb, ltb, leb, List, [], ◌∷◌, length, refl, sym, ap, ◌∙◌, ⊎_elim, arith}
use Rattle.std.specs.Prelude.{filter}
use Rattle.std.specs.List.{list_any, AllByRecursion as Each}
use Rattle.std.proofs.lemmas.Nat.{mod-mul-add}
use Rattle.std.proofs.lemmas.Bool.{and_parts, and_from, leb-true, ltb-true, le-leb, lt-ltb, eq-eqb, ne_eqb, false_from_ne_true, not_from_false, false≢true, cases_lt}
use Rattle.std.proofs.lemmas.List.Filters.{length-filter_both}
use Rattle.model_core.specs.Blocks.{Block, HasFrame}
use Rattle.model_core.specs.Choice.{count_below}
use Rattle.model_core.specs.CacheOperations.{frames_of}
use Rattle.model_core.specs.Numbered.{is_clear}
use Rattle.model_core.specs.WellFormed.{IsApart, AreApart}
use Rattle.model_core.proofs.CountBelow.{bit}
use Rattle.model_core.specs.Elements.{IsIn}
use Rattle.model_core.proofs.Lists.{each_in, in_filter, some_any}

-- Halves of blocks

two_more : (p : ℕ → Bool) (n : ℕ) → count_below p (suc n * 2) ≡ count_below p (n * 2) + bit (p (2 * n)) + bit (p (2 * n + 1))
two_more p n =
    let e : suc n * 2 ≡ suc (suc (n * 2)) = omega arith in
    let even : n * 2 ≡ 2 * n = omega arith in
    let odd : suc (n * 2) ≡ 2 * n + 1 = omega arith in
    let a : bit (p (n * 2)) ≡ bit (p (2 * n)) = ap (λ x. bit (p x)) even in
    let b : bit (p (suc (n * 2))) ≡ bit (p (2 * n + 1)) = ap (λ x. bit (p x)) odd in
    let all : count_below p (suc n * 2) ≡ count_below p (n * 2) + bit (p (n * 2)) + bit (p (suc (n * 2))) = ap (count_below p) e in
    omega (arith, a, b, all)

two_bits : (a b : Bool) → bit a + bit b ≡ 2 * bit (a && b) + (bit (a && not (a && b)) + bit (b && not (a && b)))
two_bits true true = refl
two_bits true false = refl
two_bits false true = refl
two_bits false false = refl

-- Block q of order k is clear alone: all its frames pass the test, so it is clear, but the block of the next order that contains
-- it is not clear.
abbrev pub is_clear_alone : (ℕ → Bool) → ℕ → ℕ → Bool
is_clear_alone ok k q = is_clear ok k q && not (is_clear ok (suc k) (q / 2))

-- the number of clear blocks among the first 2 * n blocks of order k is the number of these blocks that are clear alone, plus
-- twice the number of clear blocks among the first n blocks of the next order
pub clear_halves : (ok : ℕ → Bool) (k n : ℕ) → count_below (is_clear ok k) (n * 2) ≡ count_below (is_clear_alone ok k) (n * 2) + 2 * count_below (is_clear ok (suc k)) n
clear_halves ok k zero = refl
clear_halves ok k (suc n) =
    let rest : count_below (is_clear ok k) (n * 2) ≡ count_below (is_clear_alone ok k) (n * 2) + 2 * count_below (is_clear ok (suc k)) n = clear_halves ok k n in
    let two : count_below (is_clear ok k) (suc n * 2) ≡ count_below (is_clear ok k) (n * 2) + bit (is_clear ok k (2 * n)) + bit (is_clear ok k (2 * n + 1)) = two_more (is_clear ok k) n in
    let alone : count_below (is_clear_alone ok k) (suc n * 2) ≡ count_below (is_clear_alone ok k) (n * 2) + bit (is_clear_alone ok k (2 * n)) + bit (is_clear_alone ok k (2 * n + 1)) = two_more (is_clear_alone ok k) n in
    let low : 2 * n / 2 ≡ n = omega arith in
    let high : (2 * n + 1) / 2 ≡ n = omega arith in
    let a : bit (is_clear_alone ok k (2 * n)) ≡ bit (is_clear ok k (2 * n) && not (is_clear ok (suc k) n)) = ap (λ x. bit (is_clear ok k (2 * n) && not (is_clear ok (suc k) x))) low in
    let b : bit (is_clear_alone ok k (2 * n + 1)) ≡ bit (is_clear ok k (2 * n + 1) && not (is_clear ok (suc k) n)) = ap (λ x. bit (is_clear ok k (2 * n + 1) && not (is_clear ok (suc k) x))) high in
    let bits : bit (is_clear ok k (2 * n)) + bit (is_clear ok k (2 * n + 1)) ≡ 2 * bit (is_clear ok (suc k) n)
    + (bit (is_clear ok k (2 * n) && not (is_clear ok (suc k) n)) + bit (is_clear ok k (2 * n + 1) && not (is_clear ok (suc k) n))) = two_bits (is_clear ok k (2 * n)) (is_clear ok k (2 * n + 1)) in
    let last : count_below (is_clear ok (suc k)) (suc n) ≡ count_below (is_clear ok (suc k)) n + bit (is_clear ok (suc k) n) = refl in
    omega (arith, rest, two, alone, a, b, bits, last)

-- Multiples

first_only : (p : ℕ → Bool) (a j : ℕ) → ((f : ℕ) → a < f → f ≤ a + j → p f ≡ false) → count_below p (a + 1 + j) ≡ count_below p a + bit (p a)
first_only p a zero none = let e : a + 1 + zero ≡ suc a = omega arith in ap (count_below p) e
first_only p a (suc j) none =
    let e : a + 1 + suc j ≡ suc (a + 1 + j) = omega arith in
    let last : bit (p (a + 1 + j)) ≡ 0 = ap bit (none (a + 1 + j) (omega arith) (omega arith)) in
    let rest : count_below p (a + 1 + j) ≡ count_below p a + bit (p a) = first_only p a j (λ f l h. none f l (omega arith)) in
    let all : count_below p (a + 1 + suc j) ≡ count_below p (a + 1 + j) + bit (p (a + 1 + j)) = ap (count_below p) e in
    omega (arith, last, rest, all)

-- if only multiples of s pass p, as many numbers below n * s pass as there are numbers q below n for which q * s passes
pub strided : (p : ℕ → Bool) (s n : ℕ) → 0 < s → ((f : ℕ) → p f ≡ true → f % s ≡ 0) → count_below p (n * s) ≡ count_below (λ q. p (q * s)) n
strided p s zero pos only = let e : zero * s ≡ 0 = omega arith in ap (count_below p) e
strided p s (suc n) pos only =
    let e : suc n * s ≡ n * s + 1 + (s - 1) = omega (arith, pos) in
    let one : count_below p (n * s + 1 + (s - 1)) ≡ count_below p (n * s) + bit (p (n * s)) = first_only p (n * s) (s - 1)
    (λ f low high. false_from_ne_true (p f) (λ on.
    let rest : ℕ = f - n * s in
    let is : n * s + rest ≡ f = omega (arith, low) in
    let left : f % s ≡ rest = ap (λ x. x % s) (sym is) ∙ mod-mul-add n s rest (omega (arith, low, high, pos)) in
    absurd (omega (arith, only f on, left, low)))) in
    let before : count_below p (n * s) ≡ count_below (λ q. p (q * s)) n = strided p s n pos only in
    let all : count_below p (suc n * s) ≡ count_below p (n * s + 1 + (s - 1)) = ap (count_below p) e in
    let last : count_below (λ q. p (q * s)) (suc n) ≡ count_below (λ q. p (q * s)) n + bit (p (n * s)) = refl in
    omega (arith, one, before, all, last)

-- Two tests

pub count_or : (p q : ℕ → Bool) (n : ℕ) → ((x : ℕ) → p x ≡ true → q x ≡ false) → count_below (λ x. p x || q x) n ≡ count_below p n + count_below q n
count_or p q zero apart = refl
count_or p q (suc n) apart = let rest : count_below (λ x. p x || q x) n ≡ count_below p n + count_below q n = count_or p q n apart in
    let here : bit (p n || q n) ≡ bit (p n) + bit (q n) = go (p n) (q n) (apart n) in omega (arith, rest, here)
  where
    go : (a b : Bool) → (a ≡ true → b ≡ false) → bit (a || b) ≡ bit a + bit b
    go true b off = let none : bit b ≡ 0 = ap bit (off refl) in omega (arith, none)
    go false b off = omega arith

-- If every number that passes q passes p, the number of numbers below n that pass p is a sum: those that pass q, plus those that
-- pass p but not q.
pub count_less : (p q : ℕ → Bool) (n : ℕ) → ((x : ℕ) → q x ≡ true → p x ≡ true) → count_below p n ≡ count_below q n + count_below (λ x. p x && not (q x)) n
count_less p q zero fewer = refl
count_less p q (suc n) fewer = let rest : count_below p n ≡ count_below q n + count_below (λ x. p x && not (q x)) n = count_less p q n fewer in
    let here : bit (p n) ≡ bit (q n) + bit (p n && not (q n)) = go (p n) (q n) (fewer n) in omega (arith, rest, here)
  where
    go : (a b : Bool) → (b ≡ true → a ≡ true) → bit a ≡ bit b + bit (a && not b)
    go true true on = refl
    go true false on = refl
    go false true on = absurd (false≢true (on refl))
    go false false on = refl

-- Blocks

abbrev pub in_frames : Block → ℕ → Bool
in_frames b x = leb b.first x && ltb x (b.first + 2 ^ b.order)

pub frame_in : (b : Block) (x : ℕ) → in_frames b x ≡ true → HasFrame b x
frame_in b x e = let p : (leb b.first x ≡ true) × (ltb x (b.first + 2 ^ b.order) ≡ true) = and_parts (leb b.first x) (ltb x (b.first + 2 ^ b.order)) e in
    (leb-true b.first x p.0, ltb-true x (b.first + 2 ^ b.order) p.1)

pub in_frame : (b : Block) (x : ℕ) → HasFrame b x → in_frames b x ≡ true
in_frame b x (low, high) = and_from (leb b.first x) (ltb x (b.first + 2 ^ b.order)) (le-leb b.first x low) (lt-ltb x (b.first + 2 ^ b.order) high)

-- the frame is in one of these blocks
abbrev pub in_any : List Block → ℕ → Bool
in_any bs x = list_any (λ b. in_frames b x) bs

count_one : (b : Block) (n : ℕ) → count_below (in_frames b) n ≡ (n - b.first) - (n - (b.first + 2 ^ b.order))
count_one b zero = omega arith
count_one b (suc n) = let rest : count_below (in_frames b) n ≡ (n - b.first) - (n - (b.first + 2 ^ b.order)) = count_one b n in
    ⊎_elim
    (λ (below : n < b.first). let off : bit (in_frames b n) ≡ 0 = ap bit (false_from_ne_true (in_frames b n) (λ e. let h : HasFrame b n = frame_in b n e in absurd (omega (arith, below, h.0)))) in omega (arith, rest, off, below))
    (λ (from : b.first ≤ n). ⊎_elim
    (λ (inside : n < b.first + 2 ^ b.order). let on : bit (in_frames b n) ≡ 1 = ap bit (in_frame b n (from, inside)) in omega (arith, rest, on, from, inside))
    (λ (past : b.first + 2 ^ b.order ≤ n). let off : bit (in_frames b n) ≡ 0 = ap bit (false_from_ne_true (in_frames b n) (λ e. let h : HasFrame b n = frame_in b n e in absurd (omega (arith, past, h.1)))) in omega (arith, rest, off, from, past))
    (cases_lt n (b.first + 2 ^ b.order)))
    (cases_lt n b.first)

-- if blocks share no frame and end at n or below, the number of frames below n that are in one of them is the sum of their sizes
pub count_blocks : (bs : List Block) (n : ℕ) → AreApart bs → Each (λ b. b.first + 2 ^ b.order ≤ n) bs → count_below (in_any bs) n ≡ frames_of bs
count_blocks [] n apart below = none n
  where
    none : (n : ℕ) → count_below (in_any []) n ≡ 0
    none zero = refl
    none (suc n) = let rest : count_below (in_any []) n ≡ 0 = none n in omega (arith, rest)
count_blocks (b ∷ bs) n (first, apart) (here, below) =
    let rest : count_below (in_any bs) n ≡ frames_of bs = count_blocks bs n apart below in
    let one : count_below (in_frames b) n ≡ 2 ^ b.order = count_one b n ∙ omega (arith, here) in
    let both : count_below (in_any (b ∷ bs)) n ≡ count_below (in_frames b) n + count_below (in_any bs) n = count_or (in_frames b) (in_any bs) n
    (λ x e. false_from_ne_true (in_any bs x) (λ other.
    let c : (c : Block) × IsIn c bs × (in_frames c x ≡ true) = some_any (λ c. in_frames c x) bs other in
    each_in (IsApart b) c.0 bs first c.1 x (frame_in b x e) (frame_in c.0 x c.2))) in
    omega (arith, rest, one, both)

-- Lists

-- if a list contains every number below n that passes p, it has at least as many elements as numbers below n pass p
pub count_listed : (p : ℕ → Bool) (n : ℕ) (ys : List ℕ) → ((x : ℕ) → x < n → p x ≡ true → IsIn x ys) → count_below p n ≤ length ys
count_listed p zero ys all = omega arith
count_listed p (suc n) ys all = go (p n) refl
    (count_listed p n (filter (λ y. not (eqb y n)) ys) (λ x lt e. in_filter (λ y. not (eqb y n)) x ys (all x (omega (arith, lt)) e) (not_from_false (eqb x n) (ne_eqb x n (λ same. absurd (omega (arith, lt, same)))))))
  where
    both : length (filter (λ y. eqb y n) ys) + length (filter (λ y. not (eqb y n)) ys) ≡ length ys
    both = length-filter_both (λ y. eqb y n) (λ y. not (eqb y n)) (λ x. refl) ys

    has_one : (xs : List ℕ) → IsIn n xs → 1 ≤ length xs
    has_one [] i = elim i [ ]
    has_one (y ∷ xs) i = omega arith

    go : (b : Bool) → p n ≡ b → count_below p n ≤ length (filter (λ y. not (eqb y n)) ys) → count_below p n + bit (p n) ≤ length ys
    go true e before = let one : bit (p n) ≡ 1 = ap bit e in
        let here : 1 ≤ length (filter (λ y. eqb y n) ys) = has_one (filter (λ y. eqb y n) ys) (in_filter (λ y. eqb y n) n ys (all n (omega arith) e) (eq-eqb n n refl)) in
        omega (arith, one, here, before, both)
    go false e before = let none : bit (p n) ≡ 0 = ap bit e in omega (arith, none, before, both)
