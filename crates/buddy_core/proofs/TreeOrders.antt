-- `orders ok k q` is a number for block q of order k. Its bit j is 1 if and only if the block has an open block of order j, that
-- is a free block if the frames outside of block q are ignored. A block is clear if all its frames pass the test `ok`.
use Rattle.std.proofs.Common.{◌≡◌, ℕ, zero, suc, ◌+◌, ◌*◌, ◌/◌, ◌^◌, ◌<◌, Bool, true, false, ◌&&◌, ◌⊎◌, inl, inr, refl, sym, ap, subst, ◌∙◌, arith, cond}
use Rattle.std.specs.Prelude.{bit_or, nat_lt}
use Rattle.std.specs.Int.{bit_at}
use Rattle.std.proofs.lemmas.Bool.{and_left, cases_Bool, both_ways, cases_eq, cond-true, cond-false, lt-ltb, le-ltb}
use Rattle.std.proofs.lemmas.Nat.{or_lt, pow_below}
use Rattle.std.proofs.lemmas.Nat.Bits.{bit_at_or, bit_at-pow_same, bit_at-pow_other, bit_at-zero, bit_at-lt}
use Rattle.model_core.specs.Numbered.{number_at, is_clear}
use Rattle.buddy_core.specs.Tree.{orders, word, HasOpen}
use Rattle.model_core.proofs.BlockHalves.{clear_same}
use Rattle.buddy_core.proofs.TreeNumbers.{halves, number_above, inside_clear, none_clear}

-- if a block of order k is clear, bit k is the only bit of its orders that is 1
pub orders_clear : (ok : ℕ → Bool) (k q : ℕ) → is_clear ok k q ≡ true → orders ok k q ≡ 2 ^ k
orders_clear ok zero q h = cond-true (ok q) 1 0 h
orders_clear ok (suc k) q h = cond-true (is_clear ok (suc k) q) _ _ h

-- if a block is not clear, its orders are the orders of both halves, combined by OR
pub orders_halves : (ok : ℕ → Bool) (k q : ℕ) → is_clear ok (suc k) q ≡ false → orders ok (suc k) q ≡ bit_or (orders ok k (2 * q)) (orders ok k (2 * q + 1))
orders_halves ok k q h = cond-false (is_clear ok (suc k) q) _ _ h

-- in the orders of a block of order k, no bit above bit k is 1
pub orders_small : (ok : ℕ → Bool) (k q : ℕ) → orders ok k q < 2 ^ suc k
orders_small ok zero q = elim (cases_Bool (ok q)) [ inl t ↦ subst (λ n. n < 2 ^ 1) (sym (cond-true (ok q) 1 0 t)) (omega arith) | inr f ↦ subst (λ n. n < 2 ^ 1) (sym (cond-false (ok q) 1 0 f)) (omega arith) ]
orders_small ok (suc k) q =
    let larger = pow_below (suc k) (suc (suc k)) (omega arith) in
    let both = or_lt (suc k) (orders ok k (2 * q)) (orders ok k (2 * q + 1)) (orders_small ok k (2 * q)) (orders_small ok k (2 * q + 1)) in
    elim (cases_Bool (is_clear ok (suc k) q)) [ inl t ↦ omega (arith, orders_clear ok (suc k) q t) | inr f ↦ omega (arith, orders_halves ok k q f) ]

-- if bit k is the only bit that is 1 in the orders of a block of order k, the block is clear
pub orders_whole : (ok : ℕ → Bool) (k q : ℕ) → orders ok k q ≡ 2 ^ k → is_clear ok k q ≡ true
orders_whole ok zero q h = elim (cases_Bool (ok q)) [ inl t ↦ t | inr f ↦ let none = cond-false {A = ℕ} (ok q) 1 0 f in absurd (omega arith) ]
orders_whole ok (suc k) q h =
    let both = or_lt (suc k) (orders ok k (2 * q)) (orders ok k (2 * q + 1)) (orders_small ok k (2 * q)) (orders_small ok k (2 * q + 1)) in
    elim (cases_Bool (is_clear ok (suc k) q)) [ inl t ↦ t | inr f ↦ absurd (omega (arith, orders_halves ok k q f)) ]

-- the orders of a block are 0 if none of its frames passes the test
pub orders_none : (ok : ℕ → Bool) (k q : ℕ) → ((x : ℕ) → number_at k x ≡ q → ok x ≡ false) → orders ok k q ≡ 0
orders_none ok zero q h = cond-false (ok q) 1 0 (h q refl)
orders_none ok (suc k) q h =
    let low = orders_none ok k (2 * q) (λ x e. h x (omega arith)) in
    let high = orders_none ok k (2 * q + 1) (λ x e. h x (omega arith)) in
    orders_halves ok k q (none_clear ok (suc k) q h) ∙ ap (λ n. bit_or n (orders ok k (2 * q + 1))) low ∙ ap (λ n. bit_or 0 n) high

-- if two tests agree on all frames of a block, the block has the same orders with both
pub orders_same : (a b : ℕ → Bool) (k q : ℕ) → ((x : ℕ) → number_at k x ≡ q → a x ≡ b x) → orders a k q ≡ orders b k q
orders_same a b zero q h = ap (λ t. cond t 1 0) (h q refl)
orders_same a b (suc k) q h =
    let low = orders_same a b k (2 * q) (λ x e. h x (omega arith)) in
    let high = orders_same a b k (2 * q + 1) (λ x e. h x (omega arith)) in
    ap (λ t. cond t (2 ^ suc k) (orders_both a k q)) (clear_same a b (suc k) q h)
    ∙ ap (λ n. cond (is_clear b (suc k) q) (2 ^ suc k) (bit_or n (orders a k (2 * q + 1)))) low
    ∙ ap (λ n. cond (is_clear b (suc k) q) (2 ^ suc k) (bit_or (orders b k (2 * q)) n)) high
  where
    orders_both : (ℕ → Bool) → ℕ → ℕ → ℕ
    orders_both a k q = bit_or (orders a k (2 * q)) (orders a k (2 * q + 1))

-- The word of the whole superblock is its orders. The word of a smaller block is 0 if the next larger block around it is clear.
-- Otherwise it is the orders of the smaller block.
pub word_whole : (ok : ℕ → Bool) (k q : ℕ) → word ok k k q ≡ orders ok k q
word_whole ok k q = cond-false (nat_lt k k && is_clear ok (suc k) (q / 2)) 0 _ (and_left _ _ (le-ltb k k (omega arith)))

pub word_inside : (ok : ℕ → Bool) (top k q : ℕ) → k < top → word ok top k q ≡ cond (is_clear ok (suc k) (q / 2)) 0 (orders ok k q)
word_inside ok top k q h = ap (λ t. cond (t && is_clear ok (suc k) (q / 2)) 0 (orders ok k q)) (lt-ltb k top h)

-- if bit j of 2 ^ k is 1, j is k
pub bit_apart : (k j : ℕ) → bit_at (2 ^ k) j ≡ 1 → j ≡ k
bit_apart k j h = elim (cases_eq j k) [ inl e ↦ e | inr ne ↦ absurd (omega (arith, bit_at-pow_other k j ne)) ]

pub either_bit : (a b j : ℕ) → bit_at (bit_or a b) j ≡ 1 → (bit_at a j ≡ 1) ⊎ (bit_at b j ≡ 1)
either_bit a b j h =
    let both = bit_at_or a b j in
    let low = bit_at-lt a j in
    let high = bit_at-lt b j in
    elim (cases_eq (bit_at a j) 1) [ inl e ↦ inl e | inr ne ↦ inr (omega arith) ]

whole_open : (ok : ℕ → Bool) (k q j : ℕ) → is_clear ok k q ≡ true → j ≡ k → HasOpen ok k k q j
whole_open ok k q j h e = (0, q, omega arith, refl, (omega arith, subst (λ i. is_clear ok i q ≡ true) (sym e) h, inl e))

-- if block q is not clear, each block that is open in one of its halves is open in block q too
open_above : (ok : ℕ → Bool) (k q r j : ℕ) → is_clear ok (suc k) q ≡ false → r / 2 ≡ q → HasOpen ok k k r j → HasOpen ok (suc k) (suc k) q j
open_above ok k q r j h e (n, p, s, a, (small, clear, around)) =
    (suc n, p, omega arith, ap (λ i. i / 2) a ∙ e, (omega arith, clear, elim around [ inl t ↦ inr (not_clear n s a t) | inr f ↦ inr f ]))
  where
    not_clear : (n : ℕ) → j + n ≡ k → number_at n p ≡ r → j ≡ k → is_clear ok (suc j) (p / 2) ≡ false
    not_clear zero s a t = subst (λ i. is_clear ok (suc i) (p / 2) ≡ false) (sym t) (subst (λ i. is_clear ok (suc k) i ≡ false) (let b : q ≡ p / 2 = omega arith in b) h)
    not_clear (suc n) s a t = absurd (omega arith)

pub orders_tell : (ok : ℕ → Bool) (k q j : ℕ) → bit_at (orders ok k q) j ≡ 1 → HasOpen ok k k q j
orders_tell ok zero q j h = elim (cases_Bool (ok q)) [
  | inl t ↦ whole_open ok 0 q j t (bit_apart 0 j (subst (λ n. bit_at n j ≡ 1) (orders_clear ok 0 q t) h))
  | inr f ↦ absurd (let none = subst (λ n. bit_at n j ≡ 1) (cond-false {A = ℕ} (ok q) 1 0 f) h in omega (arith, bit_at-zero j))
]
orders_tell ok (suc k) q j h = elim (cases_Bool (is_clear ok (suc k) q)) [
  | inl t ↦ whole_open ok (suc k) q j t (bit_apart (suc k) j (subst (λ n. bit_at n j ≡ 1) (orders_clear ok (suc k) q t) h))
  | inr f ↦ elim (either_bit (orders ok k (2 * q)) (orders ok k (2 * q + 1)) j (subst (λ n. bit_at n j ≡ 1) (orders_halves ok k q f) h)) [
    | inl low ↦ open_above ok k q (2 * q) j f (omega arith) (orders_tell ok k (2 * q) j low)
    | inr high ↦ open_above ok k q (2 * q + 1) j f (omega arith) (orders_tell ok k (2 * q + 1) j high)
  ]
]

-- if a block of order j is open in a clear block of order k, j is k
open_whole : (ok : ℕ → Bool) (k q j : ℕ) → is_clear ok k q ≡ true → HasOpen ok k k q j → j ≡ k
open_whole ok k q j h (n, p, s, a, (small, clear, around)) = go n s a
  where
    go : (n : ℕ) → j + n ≡ k → number_at n p ≡ q → j ≡ k
    go zero s a = omega arith
    go (suc n) s a = elim around [ inl e ↦ e | inr f ↦ absurd (both_ways (is_clear ok (suc j) (p / 2)) f (inside_clear ok n (suc j) k (p / 2) (omega arith) (subst (λ i. is_clear ok k i ≡ true) (sym (number_above n 1 (suc n) p (omega arith) ∙ a)) h))) ]

-- if a block is not clear, each block that is open in it is open in one of its halves
open_below : (ok : ℕ → Bool) (k q j : ℕ) → is_clear ok (suc k) q ≡ false → HasOpen ok (suc k) (suc k) q j → (r : ℕ) × (r / 2 ≡ q) × HasOpen ok k k r j
open_below ok k q j h (n, p, s, a, (small, clear, around)) = go n s a
  where
    go : (n : ℕ) → j + n ≡ suc k → number_at n p ≡ q → (r : ℕ) × (r / 2 ≡ q) × HasOpen ok k k r j
    go zero s a = absurd (both_ways (is_clear ok (suc k) q) h (subst (λ i. is_clear ok i q ≡ true) (let e : j ≡ suc k = omega arith in e) (subst (λ i. is_clear ok j i ≡ true) a clear)))
    go (suc n) s a = (number_at n p, a, (n, p, omega arith, refl, (omega arith, clear, elim around [ inl e ↦ absurd (omega arith) | inr f ↦ inr f ])))

bit_of_half : (a b j : ℕ) → (bit_at a j ≡ 1) ⊎ (bit_at b j ≡ 1) → bit_at (bit_or a b) j ≡ 1
bit_of_half a b j h =
    let both = bit_at_or a b j in
    let low = bit_at-lt a j in
    let high = bit_at-lt b j in
    elim h [ inl l ↦ omega arith | inr r ↦ omega arith ]

told_whole : (ok : ℕ → Bool) (k q j : ℕ) → is_clear ok k q ≡ true → HasOpen ok k k q j → bit_at (orders ok k q) j ≡ 1
told_whole ok k q j t h = subst (λ n. bit_at n j ≡ 1) (sym (orders_clear ok k q t)) (subst (λ i. bit_at (2 ^ k) i ≡ 1) (sym (open_whole ok k q j t h)) (bit_at-pow_same k))

told_frame : (ok : ℕ → Bool) (q j : ℕ) → ok q ≡ false → HasOpen ok 0 0 q j → ⊥
told_frame ok q j f (n, p, s, a, (small, clear, around)) =
    let none : n ≡ 0 = omega arith in
    let same : p ≡ q = subst (λ i. number_at i p ≡ q) none a in
    both_ways (ok q) f (subst (λ i. is_clear ok i q ≡ true) (let e : j ≡ 0 = omega arith in e) (subst (λ i. is_clear ok j i ≡ true) same clear))

pub orders_told : (ok : ℕ → Bool) (k q j : ℕ) → HasOpen ok k k q j → bit_at (orders ok k q) j ≡ 1
orders_told ok zero q j h = elim (cases_Bool (ok q)) [ inl t ↦ told_whole ok 0 q j t h | inr f ↦ absurd (told_frame ok q j f h) ]
orders_told ok (suc k) q j h = elim (cases_Bool (is_clear ok (suc k) q)) [
  | inl t ↦ told_whole ok (suc k) q j t h
  | inr f ↦
      let half = open_below ok k q j f h in
      let bit = orders_told ok k half.0 j half.2 in
      subst (λ n. bit_at n j ≡ 1) (sym (orders_halves ok k q f)) (bit_of_half _ _ j (elim (halves q half.0 half.1) [
        | inl e ↦ inl (subst (λ i. bit_at (orders ok k i) j ≡ 1) e bit)
        | inr e ↦ inr (subst (λ i. bit_at (orders ok k i) j ≡ 1) e bit)
      ]))
]
