-- The marks of a slot's blocks: a mark is set if a frame of its block is taken, and clear if the block is vacant. The number of
-- clear marks is the number of vacant blocks, and the marks of the two halves of a block give the mark of the block.
use Rattle.std.proofs.Common.{◌≡◌, ℕ, zero, suc, ◌+◌, ◌-◌, ◌*◌, ◌^◌, ◌<◌, ◌≤◌, Bool, true, false, not, cond, List, [], ◌∷◌, length, get_or, take, inl, inr, refl, sym, ap, ◌∙◌, arith}
use Rattle.std.specs.Prelude.{◌||◌, filter}
use Rattle.std.specs.List.{list_any}
use Rattle.std.proofs.Math.Bool.{not-not}
use Rattle.std.proofs.lemmas.Nat.{pow_pos, pow-add}
use Rattle.std.proofs.lemmas.Bool.{lt-ltb, and_from, or_left, or_right, cases_lt}
use Rattle.std.proofs.lemmas.List.Filters.{length-filter_more}
use Rattle.model_core.specs.Blocks.{Block, block}
use Rattle.model_core.specs.Operations.{overlaps}
use Rattle.promise_core.specs.Holdings.{Holdings, known_blocks, is_vacant}
use Rattle.known_holdings.proofs.ComputedTests.{vacant_from, more_vacant, more_taken}
use Rattle.known_holdings.proofs.PageBlocks.{overlap_near}

bool_same : (p q : Bool) → (p ≡ true → q ≡ true) → (q ≡ true → p ≡ true) → p ≡ q
bool_same true true there back = refl
bool_same true false there back = sym (there refl)
bool_same false true there back = back refl
bool_same false false there back = refl

-- The next lemmas show that block a overlaps block b exactly if one of the halves of a overlaps b.
double : (k : ℕ) → 2 ^ (k + 1) ≡ 2 * 2 ^ k
double k = pow-add 2 k 1 ∙ omega arith

over_half : (f k : ℕ) (b : Block) → overlaps (block f (k + 1)) b ≡ (overlaps (block f k) b || overlaps (block (f + 2 ^ k) k) b)
over_half f k b = bool_same _ _ there back
  where
    some : 0 < 2 ^ b.order
    some = pow_pos b.order

    shares : (g j : ℕ) → g < b.first + 2 ^ b.order → b.first < g + 2 ^ j → overlaps (block g j) b ≡ true
    shares g j begins ends = and_from _ _ (lt-ltb g (b.first + 2 ^ b.order) begins) (lt-ltb b.first (g + 2 ^ j) ends)

    there : overlaps (block f (k + 1)) b ≡ true → (overlaps (block f k) b || overlaps (block (f + 2 ^ k) k) b) ≡ true
    there e =
        let near = overlap_near (block f (k + 1)) b f (f + 2 ^ (k + 1)) refl refl e in
        elim (cases_lt b.first (f + 2 ^ k)) [
          | inl less ↦ or_left _ _ (shares f k near.0 less)
          | inr behind ↦ or_right _ _ (shares (f + 2 ^ k) k (omega (arith, behind, some)) (omega (arith, near.1, double k)))
        ]

    back : (overlaps (block f k) b || overlaps (block (f + 2 ^ k) k) b) ≡ true → overlaps (block f (k + 1)) b ≡ true
    back e = go (overlaps (block f k) b) refl e
      where
        go : (t : Bool) → overlaps (block f k) b ≡ t → (t || overlaps (block (f + 2 ^ k) k) b) ≡ true → overlaps (block f (k + 1)) b ≡ true
        go true first h =
            let near = overlap_near (block f k) b f (f + 2 ^ k) refl refl first in
            shares f (k + 1) near.0 (omega (arith, near.1, double k))
        go false first h =
            let near = overlap_near (block (f + 2 ^ k) k) b (f + 2 ^ k) (f + 2 ^ k + 2 ^ k) refl refl h in
            shares f (k + 1) (omega (arith, near.0)) (omega (arith, near.1, double k))

swap_middle : (p q r s : Bool) → ((p || q) || (r || s)) ≡ ((p || r) || (q || s))
swap_middle true q r s = refl
swap_middle false true true s = refl
swap_middle false true false s = refl
swap_middle false false r s = refl

over_halves : (f k : ℕ) (bs : List Block)
    → list_any (overlaps (block f (k + 1))) bs ≡ (list_any (overlaps (block f k)) bs || list_any (overlaps (block (f + 2 ^ k) k)) bs)
over_halves f k [] = refl
over_halves f k (b ∷ bs) = (λ i. over_half f k b i || over_halves f k bs i)
    ∙ swap_middle (overlaps (block f k) b) (overlaps (block (f + 2 ^ k) k) b) (list_any (overlaps (block f k)) bs) (list_any (overlaps (block (f + 2 ^ k) k)) bs)

taken_halves : (h : Holdings) (f k : ℕ)
    → not (is_vacant h (block f (k + 1))) ≡ (not (is_vacant h (block f k)) || not (is_vacant h (block (f + 2 ^ k) k)))
taken_halves h f k = not-not (list_any (overlaps (block f (k + 1))) (known_blocks h)) ∙ over_halves f k (known_blocks h)
    ∙ (λ i. sym (not-not (list_any (overlaps (block f k)) (known_blocks h))) i
    || sym (not-not (list_any (overlaps (block (f + 2 ^ k) k)) (known_blocks h))) i)

-- mark i belongs to block i of order k in slot u, and is set exactly if a frame of this block is taken
abbrev pub AreMarks : Holdings → ℕ → ℕ → ℕ → List Bool → Type 0
AreMarks h order k u taken = (i : ℕ) → i < 2 ^ (order - k) → get_or taken i false ≡ not (is_vacant h (block ((u * 2 ^ (order - k) + i) * 2 ^ k) k))

-- a slot has two blocks of order k for each block of order k + 1
pub pairs_of : (order k : ℕ) → k < order → 2 ^ (order - k) ≡ 2 * 2 ^ (order - (k + 1))
pairs_of order k less = ap (λ n. 2 ^ n) (omega (arith, less)) ∙ double (order - (k + 1))

pub joined : (h : Holdings) (order k u : ℕ) (taken next : List Bool) → k < order → AreMarks h order k u taken
    → ((i : ℕ) → i < 2 ^ (order - (k + 1)) → get_or next i false ≡ (get_or taken (2 * i) false || get_or taken (2 * i + 1) false))
    → AreMarks h order (k + 1) u next
joined h order k u taken next less marks pair i in_slot =
    let half : ℕ = 2 ^ (order - (k + 1)) in
    let first : ℕ = (u * half + i) * 2 ^ (k + 1) in
    let left : (u * 2 ^ (order - k) + 2 * i) * 2 ^ k ≡ first =
    (λ t. (u * pairs_of order k less t + 2 * i) * 2 ^ k) ∙ even half ∙ (λ t. (u * half + i) * sym (double k) t) in
    let right : (u * 2 ^ (order - k) + (2 * i + 1)) * 2 ^ k ≡ first + 2 ^ k =
    odd (2 ^ (order - k)) ∙ ap (λ n. n + 2 ^ k) left in
    pair i in_slot
    ∙ (λ t. marks (2 * i) (omega (arith, in_slot, pairs_of order k less)) t || marks (2 * i + 1) (omega (arith, in_slot, pairs_of order k less)) t)
    ∙ (λ t. not (is_vacant h (block (left t) k)) || not (is_vacant h (block (right t) k)))
    ∙ sym (taken_halves h first k)
  where
    even : (half : ℕ) → (u * (2 * half) + 2 * i) * 2 ^ k ≡ (u * half + i) * (2 * 2 ^ k)
    even half = omega arith

    odd : (n : ℕ) → (u * n + (2 * i + 1)) * 2 ^ k ≡ (u * n + 2 * i) * 2 ^ k + 2 ^ k
    odd n = omega arith

-- Suppose that the number of clear marks among the first n marks is the number of vacant blocks among the first n blocks. If mark
-- n is set exactly if block n is not vacant, these numbers are also equal for the first n + 1 marks and blocks.
one_more : (h : Holdings) (k begin n : ℕ) (taken : List Bool) → n < length taken
    → get_or taken n false ≡ not (is_vacant h (block ((begin + n) * 2 ^ k) k))
    → length (filter not (take n taken)) ≡ vacant_from h k begin n
    → length (filter not (take (suc n) taken)) ≡ vacant_from h k begin (suc n)
one_more h k begin n taken less mark before =
    ap (λ m. length (filter not (take m taken))) add_one
    ∙ length-filter_more not taken n false less
    ∙ (λ i. before i + cond (not (mark i)) 1 0)
    ∙ last (is_vacant h (block ((begin + n) * 2 ^ k) k)) refl
    ∙ ap (vacant_from h k begin) (sym add_one)
  where
    add_one : suc n ≡ n + 1
    add_one = omega arith

    last : (t : Bool) → is_vacant h (block ((begin + n) * 2 ^ k) k) ≡ t → vacant_from h k begin n + cond (not (not t)) 1 0 ≡ vacant_from h k begin (n + 1)
    last true e = sym (more_vacant h k begin n e)
    last false e = omega arith ∙ sym (more_taken h k begin n e)

pub clear_are : (h : Holdings) (k begin n : ℕ) (taken : List Bool) → n ≤ length taken
    → ((i : ℕ) → i < n → get_or taken i false ≡ not (is_vacant h (block ((begin + i) * 2 ^ k) k)))
    → length (filter not (take n taken)) ≡ vacant_from h k begin n
clear_are h k begin zero taken long marks = refl
clear_are h k begin (suc n) taken long marks =
    one_more h k begin n taken (omega (arith, long)) (marks n (omega arith))
    (clear_are h k begin n taken (omega (arith, long)) (λ i less. marks i (omega (arith, less))))
