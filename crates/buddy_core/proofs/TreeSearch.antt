-- The search of a tree goes down from the root. Of all free blocks of an order, it finds the one with the least first frame. A
-- block is clear if all its frames are available.
use Rattle.std.proofs.Common.{◌≡◌, ℕ, suc, ◌+◌, ◌-◌, ◌*◌, ◌/◌, ◌%◌, ◌^◌, ◌<◌, ◌≤◌, Bool, true, false, List, length, get_or, ◌⊎◌, inl, inr, refl, sym, ap, subst, ◌∙◌, arith}
use Rattle.std.specs.Prelude.{slice_index}
use Rattle.std.specs.Int.{bit_at}
use Rattle.std.proofs.lemmas.Bool.{cases_eq, cases_lt, cond-false, false_from_ne_true}
use Rattle.std.proofs.lemmas.Nat.{shl_below, shl_whole, shl-shr, one_shl, pow_pos, pow-add}
use Rattle.std.proofs.Math.Nat.{pow-suc, mul-le-mul_right, mul-lt-mul_of_pos_right, div-mul-le_self, div-lt_iff_lt-mul}
use Rattle.std.proofs.Math.Pow.{pow_mono}
use Rattle.model_core.specs.declared.limits.TheConstants.{WIDE_ORDER}
use Rattle.model_core.specs.Numbered.{number_at, is_clear, IsOpen}
use Rattle.buddy_core.specs.Tree.{orders, Shows, HasOpen, IsLeast}
use Rattle.model_core.proofs.BlocksByNumber.{number_is}
use Rattle.buddy_core.proofs.TreeOrders.{orders_clear, orders_halves, bit_apart, either_bit, orders_tell, orders_told, word_whole, word_inside}
use Rattle.buddy_core.proofs.TreeNodes.{low_node}

-- A free block of order j lies inside block q of order k, and no free block of order j lies before block q. Block q is the whole
-- superblock, or the next larger block around it is not clear.
pub record Leads (ok : ℕ → Bool) (top j k q : ℕ) : Type 0 where
  pub bit : bit_at (orders ok k q) j ≡ 1
  pub around : (k ≡ top) ⊎ (is_clear ok (suc k) (q / 2) ≡ false)
  pub least : (n p : ℕ) → j + n ≡ k → p < 2 ^ (top - j) → IsOpen ok top j p → q ≤ number_at n p

-- the root word is `orders` of the whole superblock
pub first_word : (ok : ℕ → Bool) (top : ℕ) (words : List ℕ) → Shows top ok words → slice_index words 0 ≡ orders ok top 0
first_word ok top words shows = shows.each 0 top 0 (omega arith) (omega arith) ∙ word_whole ok top 0

pub leads_first : (ok : ℕ → Bool) (top j : ℕ) (words : List ℕ) → Shows top ok words → bit_at (slice_index words 0) j ≡ 1 → Leads ok top j top 0
leads_first ok top j words shows h = record {
  bit = subst (λ n. bit_at n j ≡ 1) (first_word ok top words shows) h;
  around = inl refl;
  least = λ n p s b o. omega arith;
}

-- a block that has a smaller free block inside is not clear
not_whole : (ok : ℕ → Bool) (k q j : ℕ) → j ≤ k → bit_at (orders ok (suc k) q) j ≡ 1 → is_clear ok (suc k) q ≡ false
not_whole ok k q j h b = false_from_ne_true _ (λ t.
    let whole = bit_apart (suc k) j (subst (λ n. bit_at n j ≡ 1) (orders_clear ok (suc k) q t) b) in omega arith)

-- if the search is at a block of order k + 1 and j is at most k, the stored word of the block's lower half is `orders` of that
-- half
pub low_word : (ok : ℕ → Bool) (top j k q d : ℕ) (words : List ℕ) → Shows top ok words → suc d + k ≡ top → q < 2 ^ d → j ≤ k → Leads ok top j (suc k) q
    → (n : ℕ) → n ≡ 2 ^ d + q → slice_index words (2 * n - 1) ≡ orders ok k (2 * q)
low_word ok top j k q d words shows s b h l n e =
    let half : 2 * q / 2 ≡ q = omega arith in
    ap (λ i. get_or words (i - 1) 0) (sym (low_node d q n e)) ∙ shows.each (suc d) k (2 * q) s (omega (arith, pow-suc 2 d))
    ∙ word_inside ok top k (2 * q) (omega arith)
    ∙ cond-false _ 0 _ (ap (λ i. is_clear ok (suc k) i) half ∙ not_whole ok k q j h l.bit)

pub leads_low : (ok : ℕ → Bool) (top j k q : ℕ) → j ≤ k → Leads ok top j (suc k) q → bit_at (orders ok k (2 * q)) j ≡ 1 → Leads ok top j k (2 * q)
leads_low ok top j k q h l b = record {
  bit = b;
  around = inr (ap (λ i. is_clear ok (suc k) i) (let half : 2 * q / 2 ≡ q = omega arith in half) ∙ not_whole ok k q j h l.bit);
  least = λ n p s small o. let above = l.least (suc n) p (omega arith) small o in omega arith;
}

pub leads_high : (ok : ℕ → Bool) (top j k q : ℕ) → j ≤ k → k < top → Leads ok top j (suc k) q → (bit_at (orders ok k (2 * q)) j ≡ 1 → ⊥) → Leads ok top j k (2 * q + 1)
leads_high ok top j k q h lt l off =
    let split = not_whole ok k q j h l.bit in
    record {
      bit = elim (either_bit _ _ j (subst (λ n. bit_at n j ≡ 1) (orders_halves ok k q split) l.bit)) [ inl b ↦ absurd (off b) | inr b ↦ b ];
      around = inr (ap (λ i. is_clear ok (suc k) i) (let half : (2 * q + 1) / 2 ≡ q = omega arith in half) ∙ split);
      least = λ n p s small o.
          let above = l.least (suc n) p (omega arith) small o in
          elim (cases_eq (number_at n p) (2 * q)) [
            | inl e ↦ absurd (off (orders_told ok k (2 * q) j (n, p, s, e, inner p o)))
            | inr ne ↦ omega arith
          ];
    }
  where
    inner : (p : ℕ) → IsOpen ok top j p → IsOpen ok k j p
    inner p (small, clear, around) = (h, clear, elim around [ inl e ↦ absurd (omega arith) | inr f ↦ inr f ])

-- if the search reaches a block of order j, this block is free, and no free block of order j has a smaller number
pub leads_last : (ok : ℕ → Bool) (top j q : ℕ) → j ≤ top → Leads ok top j j q → IsLeast ok top j q
leads_last ok top j q h l = ((h, clear (orders_tell ok j q j l.bit), l.around), λ p small o. l.least 0 p (omega arith) small o)
  where
    clear : HasOpen ok j j q j → is_clear ok j q ≡ true
    clear (n, p, s, a, (small, c, around)) = subst (λ i. is_clear ok j i ≡ true) (subst (λ i. number_at i p ≡ q) (let z : n ≡ 0 = omega arith in z) a) c

-- After d steps down the search is at node n. If bit j of the root word is 1, `Leads` holds for the block of node n.
pub record Reached (top j d n : ℕ) (words : List ℕ) : Type 0 where
  pub least : 2 ^ d ≤ n
  pub depth : n < 2 * 2 ^ d
  pub leads : (ok : ℕ → Bool) → Shows top ok words → bit_at (slice_index words 0) j ≡ 1 → Leads ok top j (top - d) (n - 2 ^ d)

at_depth : (ok : ℕ → Bool) (top j d k q n e : ℕ) → e ≡ d + 1 → k ≡ top - suc d → n ≡ 2 ^ suc d + q → Leads ok top j k q → Leads ok top j (top - e) (n - 2 ^ e)
at_depth ok top j d k q n e a b s l =
    let e1 : e ≡ suc d = omega arith in
    subst (λ i. Leads ok top j (top - i) (n - 2 ^ i)) (sym e1)
    (subst (λ i. Leads ok top j i (n - 2 ^ suc d)) b
    (subst (λ i. Leads ok top j k i) (let r : q ≡ n - 2 ^ suc d = omega arith in r) l))

-- if d is below top, top - d is one more than top - (d + 1)
below_top : (top d : ℕ) → d < top → top - d ≡ suc (top - suc d)
below_top top d h = omega arith

-- If `Leads` for a block implies `Leads` for its half x, then `Reached` for node n implies `Reached` for node m + x, where m is
-- 2 * n. Half 0 is the lower half, and half 1 is the upper half.
stepped_down : (top j d n m e x : ℕ) (words : List ℕ) → x < 2 → d + j < top → e ≡ d + 1 → m ≡ n * 2
    → ((ok : ℕ → Bool) (k q : ℕ) → j ≤ k → k < top → Leads ok top j (suc k) q → slice_index words (m - 1) ≡ orders ok k (2 * q) → Leads ok top j k (2 * q + x))
    → Reached top j d n words → Reached top j e (m + x) words
stepped_down top j d n m e x words half h a s on r =
    let k = top - suc d in
    let q = n - 2 ^ d in
    let least = r.least in
    let depth = r.depth in
    let wide : 2 ^ e ≡ 2 ^ d * 2 = ap (λ i. 2 ^ i) (let e1 : e ≡ suc d = omega arith in e1) ∙ pow-suc 2 d in
    record {
      least = omega arith;
      depth = omega arith;
      leads = λ ok shows root.
          let l = subst (λ i. Leads ok top j i q) (below_top top d (omega arith)) (r.leads ok shows root) in
          let same : slice_index words (m - 1) ≡ orders ok k (2 * q) =
          ap (λ i. get_or words (i - 1) 0) (let t : m ≡ 2 * n = omega arith in t) ∙ low_word ok top j k q d words shows (omega arith) (omega arith) (omega arith) l n (omega arith) in
          at_depth ok top j d k (2 * q + x) (m + x) e a refl (omega (arith, pow-suc 2 d)) (on ok k q (omega arith) (omega arith) l same);
    }

pub reached_low : (top j d n m e : ℕ) (words : List ℕ) → d + j < top → e ≡ d + 1 → m ≡ n * 2 → bit_at (slice_index words (m - 1)) j ≡ 1 → Reached top j d n words → Reached top j e m words
reached_low top j d n m e words h a s bit r =
    subst (λ i. Reached top j e i words) (let low : m + 0 ≡ m = omega arith in low) (stepped_down top j d n m e 0 words (omega arith) h a s
    (λ ok k q le lt l same. subst (λ i. Leads ok top j k i) (let low : 2 * q ≡ 2 * q + 0 = omega arith in low) (leads_low ok top j k q le l (subst (λ i. bit_at i j ≡ 1) same bit))) r)

pub reached_high : (top j d n m e : ℕ) (words : List ℕ) → d + j < top → e ≡ d + 1 → m ≡ n * 2 → (bit_at (slice_index words (m - 1)) j ≡ 1 → ⊥) → Reached top j d n words → Reached top j e (m + 1) words
reached_high top j d n m e words h a s off r =
    stepped_down top j d n m e 1 words (omega arith) h a s (λ ok k q le lt l same. leads_high ok top j k q le lt l (λ b. off (subst (λ i. bit_at i j ≡ 1) (sym same) b))) r

-- if the search is at node n after fewer than top steps, the words of both halves of node n are stored
pub reached_stored : (top j d n : ℕ) (words : List ℕ) → length words + 1 ≡ 2 ^ (top + 1) → d < top → Reached top j d n words → 2 * n + 1 ≤ length words
reached_stored top j d n words size h r =
    let least = r.least in
    let depth = r.depth in
    let deep = pow_mono {i = suc (suc d)} {j = top + 1} (omega arith) in
    omega (arith, pow-suc 2 d, pow-suc 2 (suc d))

-- If the search ends at node n, the code computes (n << j) - (1 << top). Neither shift overflows, and the difference is the first
-- frame of the block of node n, which is below 2 ^ top.
pub first_of : (top j n : ℕ) → j ≤ top → top ≤ WIDE_ORDER → 2 ^ (top - j) ≤ n → n < 2 * 2 ^ (top - j)
    → (1 * 2 ^ top % 4294967296 ≡ 2 ^ top) × (n * 2 ^ j % 4294967296 ≡ 2 ^ top + (n - 2 ^ (top - j)) * 2 ^ j) × ((n - 2 ^ (top - j)) * 2 ^ j < 2 ^ top)
first_of top j n h small least depth =
    let d = top - j in
    let q = n - 2 ^ d in
    let whole : 2 ^ d * 2 ^ j ≡ 2 ^ top = sym (pow-add 2 d j) ∙ ap (λ i. 2 ^ i) (let s : d + j ≡ top = omega arith in s) in
    let parts : n * 2 ^ j ≡ (2 ^ d + q) * 2 ^ j = ap (λ i. i * 2 ^ j) (let s : n ≡ 2 ^ d + q = omega arith in s) in
    let below : q * 2 ^ j < 2 ^ top = subst (λ i. q * 2 ^ j < 2 ^ i) (let s : d + j ≡ top = omega arith in s) (shl_below q d j (omega arith)) in
    (one_shl top 32 (omega arith), shl_whole n (suc d) j 32 (omega (arith, pow-suc 2 d)) (omega arith) ∙ omega arith, below)

pub found_first : (top j d n r : ℕ) (words : List ℕ) → j ≤ top → d ≡ top - j → r ≡ (n - 2 ^ d) * 2 ^ j → Reached top j d n words
    → (ok : ℕ → Bool) → Shows top ok words → bit_at (slice_index words 0) j ≡ 1 → (number_at j r * 2 ^ j ≡ r) × IsLeast ok top j (number_at j r)
found_first top j d n r words h s e way ok shows root =
    let q = n - 2 ^ d in
    let number : number_at j r ≡ q = number_is j r ∙ ap (λ i. i / 2 ^ j) e ∙ shl-shr q j in
    let l = subst (λ i. Leads ok top j i q) (let t : top - d ≡ j = omega arith in t) (way.leads ok shows root) in
    (ap (λ i. i * 2 ^ j) number ∙ sym e, subst (λ i. IsLeast ok top j i) (sym number) (leads_last ok top j q h l))

pub reached_first : (top j d : ℕ) (words : List ℕ) → d ≡ 0 → Reached top j d 1 words
reached_first top j d words e =
    subst (λ i. Reached top j i 1 words) (sym e) (record {
      least = omega arith;
      depth = omega arith;
      leads = λ ok shows root. subst (λ i. Leads ok top j i 0) (let whole : top ≡ top - 0 = omega arith in whole) (leads_first ok top j words shows root);
    })

-- if `level` is top, the search has made top - j steps down
pub reached_last : (top j level n : ℕ) (words : List ℕ) → level ≡ top → Reached top j (level - j) n words → Reached top j (top - j) n words
reached_last top j level n words e way = subst (λ i. Reached top j (i - j) n words) e way

-- Nodes 1 to `len / 2 ^ (j + 1)` are the nodes of the orders above j. If node n at depth d is among these nodes, its order is
-- above j. The next lemma: if n is greater than `len / 2 ^ (j + 1)`, and the order of node n is at least j, its order is j.
pub inner_above : (top j d n len : ℕ) → len + 1 ≡ 2 ^ (top + 1) → n ≤ len / 2 ^ (j + 1) → 2 ^ d ≤ n → d + j < top
inner_above top j d n len size test least = elim (cases_lt (d + j) top) [
  | inl lt ↦ lt
  | inr ge ↦ absurd (
      let grown : 2 ^ (top + 1) ≤ 2 ^ d * 2 ^ (j + 1) = subst (λ i. 2 ^ (top + 1) ≤ i) (pow-add 2 d (j + 1)) (pow_mono {i = top + 1} {j = d + (j + 1)} (omega arith)) in
      let from = mul-le-mul_right (2 ^ (j + 1)) least in
      let to = mul-le-mul_right (2 ^ (j + 1)) test in
      let whole = div-mul-le_self len (2 ^ (j + 1)) in
      omega (arith, size, grown, from, to, whole))
]

pub inner_last : (top j d n len : ℕ) → len + 1 ≡ 2 ^ (top + 1) → d + j ≤ top → len / 2 ^ (j + 1) < n → n < 2 * 2 ^ d → d + j ≡ top
inner_last top j d n len size h beyond depth = elim (cases_lt (d + j) top) [
  | inl lt ↦ absurd (
      let some = pow_pos (j + 1) in
      let past : len < n * 2 ^ (j + 1) = (div-lt_iff_lt-mul {k = 2 ^ (j + 1)} {x = len} {y = n} some).0 beyond in
      let room : n < 2 ^ suc d = omega (arith, pow-suc 2 d) in
      let under = mul-lt-mul_of_pos_right {m = n} {n = 2 ^ suc d} {k = 2 ^ (j + 1)} room some in
      let fits : 2 ^ suc d * 2 ^ (j + 1) ≤ 2 ^ (top + 1) = subst (λ i. i ≤ 2 ^ (top + 1)) (pow-add 2 (suc d) (j + 1)) (pow_mono {i = suc d + (j + 1)} {j = top + 1} (omega arith)) in
      omega (arith, size, past, under, fits))
  | inr ge ↦ omega arith
]
