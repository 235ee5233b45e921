-- The words of the superblock in slot u of a tenant show which free blocks the tenant has there. Frame x of the superblock is the
-- tenant's frame u * 2 ^ top + x.
use Rattle.std.proofs.Common.{◌≡◌, ◌↔◌, ℕ, zero, suc, ◌+◌, ◌-◌, ◌*◌, ◌/◌, ◌%◌, ◌^◌, ◌<◌, ◌≤◌, Bool, true, false, ◌&&◌, cond, List, inl, inr, sym, ap, subst, ◌∙◌, arith}
use Rattle.std.specs.Prelude.{slice_index}
use Rattle.std.specs.Int.{bit_at}
use Rattle.std.proofs.lemmas.Bool.{cases_Bool, both_ways, cases_lt, cond-true, cond-false}
use Rattle.std.proofs.lemmas.Nat.{pow_pos, pow-add, shr_split, mod_below, pow_below}
use Rattle.std.proofs.lemmas.Nat.Bits.{bit_at-zero}
use Rattle.std.proofs.Math.Nat.{pow-suc, mul-le-mul_right}
use Rattle.model_core.specs.Blocks.{block, Taken, IsFree}
use Rattle.model_core.specs.Choice.{is_available}
use Rattle.model_core.specs.Numbered.{number_at, is_clear, IsOpen}
use Rattle.model_core.proofs.BlockHalves.{clear_at, clear_same, same_above}
use Rattle.model_core.proofs.BlockTakenOut.{TakesOut}
use Rattle.model_core.proofs.BlocksByNumber.{number_first, aligned_first, number_of_frame, frame_of_number, free_is_open, open_is_free, number_is}
use Rattle.buddy_core.specs.Tree.{orders, word, Shows, IsLess, HasOpen, IsLeast}
use Rattle.buddy_core.proofs.TreeNumbers.{number_above, number_below, number_whole, inside_clear}
use Rattle.buddy_core.proofs.TreeOrders.{orders_same, orders_tell, orders_told, word_whole, word_inside}

-- bit j of a node's word is 1 if and only if a free block of order j lies inside the node's block -------------

-- if the next larger block around block q is not clear, a block that is open in block q, seen alone, is open in the superblock
-- too
widen : (ok : ℕ → Bool) (top k q j : ℕ) → k < top → is_clear ok (suc k) (q / 2) ≡ false → HasOpen ok k k q j → HasOpen ok top k q j
widen ok top k q j lt off (n, p, s, a, (small, clear, around)) =
    (n, p, s, a, (omega arith, clear, inr (elim around [ inl e ↦ own n s a e | inr f ↦ f ])))
  where
    own : (n : ℕ) → j + n ≡ k → number_at n p ≡ q → j ≡ k → is_clear ok (suc j) (p / 2) ≡ false
    own zero s a e = subst (λ i. is_clear ok (suc i) (p / 2) ≡ false) (sym e) (ap (λ i. is_clear ok (suc k) (i / 2)) a ∙ off)
    own (suc n) s a e = absurd (omega arith)

narrow : (ok : ℕ → Bool) (top k q j : ℕ) → k < top → HasOpen ok top k q j → HasOpen ok k k q j
narrow ok top k q j lt (n, p, s, a, (small, clear, around)) =
    (n, p, s, a, (omega arith, clear, elim around [ inl e ↦ absurd (omega arith) | inr f ↦ inr f ]))

-- if block q lies inside a larger clear block, no block inside q is open in the superblock
closed : (ok : ℕ → Bool) (top k q j : ℕ) → k < top → is_clear ok (suc k) (q / 2) ≡ true → HasOpen ok top k q j → ⊥
closed ok top k q j lt on (n, p, s, a, (small, clear, around)) = elim around [
  | inl e ↦ omega arith
  | inr f ↦ both_ways (is_clear ok (suc j) (p / 2)) f
      (inside_clear ok n (suc j) (suc k) (p / 2) (omega arith)
      (ap (λ i. is_clear ok (suc k) i) (number_above n 1 (suc n) p (omega arith) ∙ ap (λ i. i / 2) a) ∙ on))
]

word_tells : (ok : ℕ → Bool) (top k q j : ℕ) → k ≤ top → (bit_at (word ok top k q) j ≡ 1) ↔ HasOpen ok top k q j
word_tells ok top k q j le = elim (cases_lt k top) [ inl lt ↦ inside lt | inr ge ↦ whole (omega arith) ]
  where
    whole : k ≡ top → (bit_at (word ok top k q) j ≡ 1) ↔ HasOpen ok top k q j
    whole e = subst (λ i. (bit_at (word ok i k q) j ≡ 1) ↔ HasOpen ok i k q j) e (
      λ b. orders_tell ok k q j (subst (λ w. bit_at w j ≡ 1) (word_whole ok k q) b),
      λ h. subst (λ w. bit_at w j ≡ 1) (sym (word_whole ok k q)) (orders_told ok k q j h),
    )

    inside : k < top → (bit_at (word ok top k q) j ≡ 1) ↔ HasOpen ok top k q j
    inside lt = elim (cases_Bool (is_clear ok (suc k) (q / 2))) [
      | inl on ↦
          let none = word_inside ok top k q lt ∙ cond-true _ 0 (orders ok k q) on in
          (λ b. absurd (let z = subst (λ w. bit_at w j ≡ 1) none b in omega (arith, bit_at-zero j)), λ h. absurd (closed ok top k q j lt on h))
      | inr off ↦
          let some = word_inside ok top k q lt ∙ cond-false _ 0 (orders ok k q) off in (
            λ b. widen ok top k q j lt off (orders_tell ok k q j (subst (λ w. bit_at w j ≡ 1) some b)),
            λ h. subst (λ w. bit_at w j ≡ 1) (sym some) (orders_told ok k q j (narrow ok top k q j lt h)),
          )
    ]

pub node_tells : (ok : ℕ → Bool) (top d k q j : ℕ) (words : List ℕ) → Shows top ok words → d + k ≡ top → q < 2 ^ d
    → (bit_at (slice_index words (2 ^ d + q - 1)) j ≡ 1) ↔ HasOpen ok top k q j
node_tells ok top d k q j words shows s b =
    subst (λ w. (bit_at w j ≡ 1) ↔ HasOpen ok top k q j) (sym (shows.each d k q s b)) (word_tells ok top k q j (omega arith))

-- if two tests agree on the superblock's frames, words that show one of them also show the other ------------

frame_within : (top d k q x : ℕ) → d + k ≡ top → q < 2 ^ d → number_at k x ≡ q → x < 2 ^ top
frame_within top d k q x s b e =
    elim (cases_lt x (2 ^ top)) [
      | inl lt ↦ lt
      | inr ge ↦ absurd (
          let high = mul-le-mul_right (2 ^ k) (let up : q + 1 ≤ 2 ^ d = omega arith in up) in
          let whole : 2 ^ d * 2 ^ k ≡ 2 ^ top = sym (pow-add 2 d k) ∙ ap (λ i. 2 ^ i) s in
          let frame = frame_of_number (q * 2 ^ k) k x (aligned_first q k) (e ∙ sym (number_first q k)) in
          let split : (q + 1) * 2 ^ k ≡ q * 2 ^ k + 2 ^ k = omega arith in
          omega arith)
    ]

pub shows_same : (a b : ℕ → Bool) (top : ℕ) (words : List ℕ) → Shows top a words → ((x : ℕ) → x < 2 ^ top → a x ≡ b x) → Shows top b words
shows_same a b top words shows same = record {
  size = shows.size;
  each = λ d k q s h. shows.each d k q s h ∙ elim (cases_lt k top) [
    | inl lt ↦ word_inside a top k q lt
        ∙ ap (λ t. cond t 0 (orders a k q)) (clear_same a b (suc k) (q / 2) (λ x e. same x (frame_within top (top - suc k) (suc k) (q / 2) x (omega arith) (half d k q s h lt) e)))
        ∙ ap (λ n. cond (is_clear b (suc k) (q / 2)) 0 n) (orders_same a b k q (λ x e. same x (frame_within top d k q x s h e)))
        ∙ sym (word_inside b top k q lt)
    | inr ge ↦
        let whole : k ≡ top = omega arith in
        ap (λ i. word a i k q) (sym whole) ∙ word_whole a k q ∙ orders_same a b k q (λ x e. same x (frame_within top d k q x s h e)) ∙ sym (word_whole b k q) ∙ ap (λ i. word b i k q) whole
  ];
}
  where
    half : (d k q : ℕ) → d + k ≡ top → q < 2 ^ d → k < top → q / 2 < 2 ^ (top - suc k)
    half d k q s h lt = let deep : 2 ^ d ≡ 2 ^ suc (top - suc k) = ap (λ i. 2 ^ i) (omega arith) in omega (arith, pow-suc 2 (top - suc k))

-- the number of a block in its superblock, and its number among all frames of the tenant ---------------------

regroup : (u a : ℕ) → u * (a * 2) ≡ u * a * 2
regroup u a = omega arith

pub number_slot : (u d k x : ℕ) → number_at k (u * 2 ^ (d + k) + x) ≡ u * 2 ^ d + number_at k x
number_slot u d zero x = ap (λ i. u * 2 ^ i + x) (let e : d + 0 ≡ d = omega arith in e)
number_slot u d (suc k) x =
    let step = ap (λ i. number_at k (u * 2 ^ i + x)) (let e : d + suc k ≡ suc d + k = omega arith in e) ∙ number_slot u (suc d) k x in
    let wide : u * 2 ^ suc d ≡ u * 2 ^ d * 2 = ap (λ n. u * n) (pow-suc 2 d) ∙ regroup u (2 ^ d) in
    omega (arith, step, wide)

pub number_in : (u top d k x : ℕ) → d + k ≡ top → number_at k (u * 2 ^ top + x) ≡ u * 2 ^ d + number_at k x
number_in u top d k x e = ap (λ i. number_at k (u * 2 ^ i + x)) (sym e) ∙ number_slot u d k x

clear_slot : (ok : ℕ → Bool) (u top d k q : ℕ) → d + k ≡ top → is_clear (λ x. ok (u * 2 ^ top + x)) k q ≡ is_clear ok k (u * 2 ^ d + q)
clear_slot ok u top d zero q e = ap (λ i. ok (u * 2 ^ i + q)) (let s : top ≡ d = omega arith in s)
clear_slot ok u top d (suc k) q e =
    let wide : u * 2 ^ suc d ≡ u * 2 ^ d * 2 = ap (λ n. u * n) (pow-suc 2 d) ∙ regroup u (2 ^ d) in
    let low = clear_slot ok u top (suc d) k (2 * q) (omega arith) ∙ ap (λ i. is_clear ok k i) (let s : u * 2 ^ suc d + 2 * q ≡ 2 * (u * 2 ^ d + q) = omega arith in s) in
    let high = clear_slot ok u top (suc d) k (2 * q + 1) (omega arith) ∙ ap (λ i. is_clear ok k i) (let s : u * 2 ^ suc d + (2 * q + 1) ≡ 2 * (u * 2 ^ d + q) + 1 = omega arith in s) in
    ap (λ t. t && is_clear (λ x. ok (u * 2 ^ top + x)) k (2 * q + 1)) low ∙ ap (λ t. is_clear ok k (2 * (u * 2 ^ d + q)) && t) high

around_slot : (ok : ℕ → Bool) (u top d k q : ℕ) → suc d + k ≡ top → is_clear (λ x. ok (u * 2 ^ top + x)) (suc k) (q / 2) ≡ is_clear ok (suc k) ((u * 2 ^ suc d + q) / 2)
around_slot ok u top d k q e =
    let wide : u * 2 ^ suc d ≡ u * 2 ^ d * 2 = ap (λ n. u * n) (pow-suc 2 d) ∙ regroup u (2 ^ d) in
    clear_slot ok u top d (suc k) (q / 2) (omega arith) ∙ ap (λ i. is_clear ok (suc k) i) (let s : u * 2 ^ d + q / 2 ≡ (u * 2 ^ suc d + q) / 2 = omega arith in s)

-- block q of order k is open in slot u if and only if block u * 2 ^ d + q of order k is open among all frames of the tenant (two
-- lemmas)
pub open_of_slot : (ok : ℕ → Bool) (u top d k q : ℕ) → d + k ≡ top → IsOpen (λ x. ok (u * 2 ^ top + x)) top k q → IsOpen ok top k (u * 2 ^ d + q)
open_of_slot ok u top zero k q e (small, clear, around) = (small, sym (clear_slot ok u top 0 k q e) ∙ clear, inl (omega arith))
open_of_slot ok u top (suc d) k q e (small, clear, around) =
    (small, sym (clear_slot ok u top (suc d) k q e) ∙ clear, elim around [ inl s ↦ inl s | inr f ↦ inr (sym (around_slot ok u top d k q e) ∙ f) ])

pub open_in_slot : (ok : ℕ → Bool) (u top d k q : ℕ) → d + k ≡ top → IsOpen ok top k (u * 2 ^ d + q) → IsOpen (λ x. ok (u * 2 ^ top + x)) top k q
open_in_slot ok u top zero k q e (small, clear, around) = (small, clear_slot ok u top 0 k q e ∙ clear, inl (omega arith))
open_in_slot ok u top (suc d) k q e (small, clear, around) =
    (small, clear_slot ok u top (suc d) k q e ∙ clear, elim around [ inl s ↦ inl s | inr f ↦ inr (around_slot ok u top d k q e ∙ f) ])

-- block p of order j in slot u begins at a multiple of 2 ^ j
first_in : (u top d j p : ℕ) → d + j ≡ top → u * 2 ^ top + p * 2 ^ j ≡ (u * 2 ^ d + p) * 2 ^ j
first_in u top d j p e =
    let whole : 2 ^ d * 2 ^ j ≡ 2 ^ top = sym (pow-add 2 d j) ∙ ap (λ i. 2 ^ i) e in
    let part : u * (2 ^ d * 2 ^ j) ≡ u * 2 ^ top = ap (λ n. u * n) whole in
    spread (u * 2 ^ top) u (2 ^ d) (2 ^ j) p part
  where
    spread : (t u a b p : ℕ) → u * (a * b) ≡ t → t + p * b ≡ (u * a + p) * b
    spread t u a b p e = omega arith

module _ (top : ℕ) (held : ℕ → Bool) (taken : Taken) (u : ℕ) where
  -- whether frame x of the slot, counted from its first frame, is available
  abbrev pub in_slot : ℕ → Bool
  in_slot x = is_available top held taken (u * 2 ^ top + x)

  free_of : (j p : ℕ) → IsOpen in_slot top j p → IsFree top held taken (block (u * 2 ^ top + p * 2 ^ j) j)
  free_of j p o =
      let e : top - j + j ≡ top = (let small = o.0 in omega arith) in
      let f = u * 2 ^ top + p * 2 ^ j in
      let at : f ≡ (u * 2 ^ (top - j) + p) * 2 ^ j = first_in u top (top - j) j p e in
      let number : number_at j f ≡ u * 2 ^ (top - j) + p = ap (λ n. number_at j n) at ∙ number_first (u * 2 ^ (top - j) + p) j in
      open_is_free top held taken (block f j) (ap (λ n. n % 2 ^ j) at ∙ aligned_first (u * 2 ^ (top - j) + p) j)
      (subst (λ n. IsOpen (is_available top held taken) top j n) (sym number) (open_of_slot (is_available top held taken) u top (top - j) j p e o))

  -- if frame f of the tenant is in slot u, it is frame f % 2 ^ top of that slot
  split : (f : ℕ) → f / 2 ^ top ≡ u → f ≡ u * 2 ^ top + f % 2 ^ top
  split f e = sym (shr_split f top) ∙ ap (λ n. n * 2 ^ top + f % 2 ^ top) e

  open_of : (j f : ℕ) → f / 2 ^ top ≡ u → IsFree top held taken (block f j) → IsOpen in_slot top j (number_at j (f % 2 ^ top))
  open_of j f e free =
      let o = free_is_open top held taken (block f j) free in
      let small = o.0 in
      let number : number_at j f ≡ u * 2 ^ (top - j) + number_at j (f % 2 ^ top) =
      ap (λ n. number_at j n) (split f e) ∙ number_in u top (top - j) j (f % 2 ^ top) (omega arith) in
      open_in_slot (is_available top held taken) u top (top - j) j (number_at j (f % 2 ^ top)) (omega arith)
      (subst (λ n. IsOpen (is_available top held taken) top j n) number o)

  -- bit j of a node's word is 1 if and only if the tenant has a free block of order j inside the node's block
  pub slot_tells : (words : List ℕ) → Shows top in_slot words → (d q j : ℕ) → d ≤ top → q < 2 ^ d
      → (bit_at (slice_index words (2 ^ d + q - 1)) j ≡ 1)
      ↔ ((f : ℕ) × IsFree top held taken (block f j) × ((u * 2 ^ top + q * 2 ^ (top - d) ≤ f) × (f + 2 ^ j ≤ u * 2 ^ top + q * 2 ^ (top - d) + 2 ^ (top - d))))
  slot_tells words shows d q j le b = (λ bit. forth (tells.0 bit), λ w. tells.1 (back w))
    where
      k : ℕ
      k = top - d

      sum : d + k ≡ top
      sum = omega arith

      tells : (bit_at (slice_index words (2 ^ d + q - 1)) j ≡ 1) ↔ HasOpen in_slot top k q j
      tells = node_tells in_slot top d k q j words shows sum b

      forth : HasOpen in_slot top k q j → (f : ℕ) × IsFree top held taken (block f j) × ((u * 2 ^ top + q * 2 ^ k ≤ f) × (f + 2 ^ j ≤ u * 2 ^ top + q * 2 ^ k + 2 ^ k))
      forth (n, p, s, a, o) =
          let some = pow_pos j in
          let last = p * 2 ^ j + (2 ^ j - 1) in
          let first_at : number_at k (p * 2 ^ j) ≡ q = sym (number_above n j k (p * 2 ^ j) s) ∙ ap (λ i. number_at n i) (number_first p j) ∙ a in
          let last_in : number_at j last ≡ p = number_of_frame (p * 2 ^ j) j last (aligned_first p j) (omega arith, omega arith) ∙ number_first p j in
          let last_at : number_at k last ≡ q = sym (number_above n j k last s) ∙ ap (λ i. number_at n i) last_in ∙ a in
          let low = frame_of_number (q * 2 ^ k) k (p * 2 ^ j) (aligned_first q k) (first_at ∙ sym (number_first q k)) in
          let high = frame_of_number (q * 2 ^ k) k last (aligned_first q k) (last_at ∙ sym (number_first q k)) in
          (u * 2 ^ top + p * 2 ^ j, free_of j p o, (omega arith, omega arith))

      back : (f : ℕ) × IsFree top held taken (block f j) × ((u * 2 ^ top + q * 2 ^ k ≤ f) × (f + 2 ^ j ≤ u * 2 ^ top + q * 2 ^ k + 2 ^ k)) → HasOpen in_slot top k q j
      back (f, free, (low, high)) =
          let some = pow_pos j in
          let up : (q + 1) * 2 ^ k ≤ 2 ^ d * 2 ^ k = mul-le-mul_right (2 ^ k) (omega arith) in
          let parts : (q + 1) * 2 ^ k ≡ q * 2 ^ k + 2 ^ k = omega arith in
          let whole : 2 ^ d * 2 ^ k ≡ 2 ^ top = sym (pow-add 2 d k) ∙ ap (λ i. 2 ^ i) sum in
          let slot : f / 2 ^ top ≡ u = sym (number_is top f) ∙ number_of_frame (u * 2 ^ top) top f (aligned_first u top) (omega arith, omega arith) ∙ number_first u top in
          let x = f % 2 ^ top in
          let at = split f slot in
          let small : j ≤ k = elim (cases_lt k j) [ inl lt ↦ absurd (let less = pow_below k j lt in omega arith) | inr ge ↦ ge ] in
          let here : number_at k x ≡ q = number_of_frame (q * 2 ^ k) k x (aligned_first q k) (omega arith, omega arith) ∙ number_first q k in
          (k - j, number_at j x, omega arith, number_above (k - j) j k x (omega arith) ∙ here, open_of j f slot free)

  -- bit j of the root word is 1 if and only if the tenant has a free block of order j in slot u
  pub root_tells : (words : List ℕ) → Shows top in_slot words → (j : ℕ)
      → (bit_at (slice_index words 0) j ≡ 1) ↔ ((f : ℕ) × IsFree top held taken (block f j) × (f / 2 ^ top ≡ u))
  root_tells words shows j = (λ bit. forth (tells.0 bit), λ w. tells.1 (back w))
    where
      tells : (bit_at (slice_index words 0) j ≡ 1) ↔ HasOpen in_slot top top 0 j
      tells = node_tells in_slot top 0 top 0 j words shows (omega arith) (omega arith)

      forth : HasOpen in_slot top top 0 j → (f : ℕ) × IsFree top held taken (block f j) × (f / 2 ^ top ≡ u)
      forth (n, p, s, a, o) =
          let first_at : number_at top (p * 2 ^ j) ≡ 0 = sym (number_above n j top (p * 2 ^ j) s) ∙ ap (λ i. number_at n i) (number_first p j) ∙ a in
          let here : number_at top (u * 2 ^ top + p * 2 ^ j) ≡ u * 2 ^ 0 + number_at top (p * 2 ^ j) = number_in u top 0 top (p * 2 ^ j) (omega arith) in
          (u * 2 ^ top + p * 2 ^ j, free_of j p o, sym (number_is top (u * 2 ^ top + p * 2 ^ j)) ∙ omega arith)

      back : (f : ℕ) × IsFree top held taken (block f j) × (f / 2 ^ top ≡ u) → HasOpen in_slot top top 0 j
      back (f, free, slot) =
          let x = f % 2 ^ top in
          let small = free.0.0 in
          (top - j, number_at j x, omega arith, number_above (top - j) j top x (omega arith) ∙ number_whole top x (mod_below f (2 ^ top) (pow_pos top)), open_of j f slot free)

  -- a free block of order j begins at the frame that `search` returns, and no free block of order j in the slot begins before it
  pub least_free : (j r : ℕ) → number_at j r * 2 ^ j ≡ r → IsLeast in_slot top j (number_at j r)
      → IsFree top held taken (block (u * 2 ^ top + r) j) × ((g : ℕ) → IsFree top held taken (block g j) → g / 2 ^ top ≡ u → u * 2 ^ top + r ≤ g)
  least_free j r e (o, least) = (subst (λ i. IsFree top held taken (block (u * 2 ^ top + i) j)) e (free_of j (number_at j r) o), later)
    where
      later : (g : ℕ) → IsFree top held taken (block g j) → g / 2 ^ top ≡ u → u * 2 ^ top + r ≤ g
      later g free slot =
          let x = g % 2 ^ top in
          let p = number_at j x in
          let small = free.0.0 in
          let at = split g slot in
          let inside : p < 2 ^ (top - j) = number_below (top - j) j x (subst (λ i. x < 2 ^ i) (let s : top ≡ top - j + j = omega arith in s) (mod_below g (2 ^ top) (pow_pos top))) in
          let below : number_at j r ≤ p = least p inside (open_of j g slot free) in
          let grows : number_at j r * 2 ^ j ≤ p * 2 ^ j = mul-le-mul_right (2 ^ j) below in
          let parts = shr_split x j in
          let size : p * 2 ^ j ≡ x / 2 ^ j * 2 ^ j = ap (λ i. i * 2 ^ j) (number_is j x) in
          omega arith

-- if a block in slot u is taken, its frames become unavailable in the superblock of slot u, and no other frame changes
module _ (large small : ℕ → Bool) (top u r k j : ℕ) (out : TakesOut large small top (u * 2 ^ top + r) k j) where
  order_within : k ≤ top
  order_within = let a = out.order in let b = out.open_block.0 in omega arith

  number_to : (x : ℕ) → number_at k x ≡ number_at k r → number_at k (u * 2 ^ top + x) ≡ number_at k (u * 2 ^ top + r)
  number_to x e =
      let le = order_within in
      number_in u top (top - k) k x (omega arith) ∙ ap (λ n. u * 2 ^ (top - k) + n) e ∙ sym (number_in u top (top - k) k r (omega arith))

  number_back : (x : ℕ) → number_at k (u * 2 ^ top + x) ≡ number_at k (u * 2 ^ top + r) → number_at k x ≡ number_at k r
  number_back x e =
      let le = order_within in
      let a = number_in u top (top - k) k x (omega arith) in
      let b = number_in u top (top - k) k r (omega arith) in
      omega arith

  pub less_in_slot : IsLess (λ x. small (u * 2 ^ top + x)) (λ x. large (u * 2 ^ top + x)) k r
  less_in_slot = record {
    was = λ x e. clear_at large j (u * 2 ^ top + x) (ap (λ n. is_clear large j n) (same_above (u * 2 ^ top + x) (u * 2 ^ top + r) k j out.order (number_to x e)) ∙ out.open_block.1);
    gone = λ x e. out.inside (u * 2 ^ top + x) (number_to x e);
    kept = λ x off. out.outside (u * 2 ^ top + x) (λ e. off (number_back x e));
  }

  pub same_elsewhere : r < 2 ^ top → (v x : ℕ) → (v ≡ u → ⊥) → x < 2 ^ top → small (v * 2 ^ top + x) ≡ large (v * 2 ^ top + x)
  same_elsewhere b v x ne h = out.outside (v * 2 ^ top + x) (λ e. ne (slots e))
    where
      slots : number_at k (v * 2 ^ top + x) ≡ number_at k (u * 2 ^ top + r) → v ≡ u
      slots e =
          let same = same_above (v * 2 ^ top + x) (u * 2 ^ top + r) k top order_within e in
          let a = number_of_frame (v * 2 ^ top) top (v * 2 ^ top + x) (aligned_first v top) (omega arith, omega arith) ∙ number_first v top in
          let c = number_of_frame (u * 2 ^ top) top (u * 2 ^ top + r) (aligned_first u top) (omega arith, omega arith) ∙ number_first u top in
          sym a ∙ same ∙ c
