-- Lemmas for the words of a tree while a change of the available frames is carried up. `old` and `new` say which frames are
-- available before and after the change. The words inside one block are already those of a separate tree of the block for `new`.
-- All other words are as before. A block is clear if all its frames are available.
use Rattle.std.proofs.Common.{◌≡◌, ℕ, zero, suc, ◌+◌, ◌-◌, ◌*◌, ◌/◌, ◌^◌, ◌<◌, ◌≤◌, Bool, true, false, ◌⊎◌, cond, List, length, set, length-set, inl, inr, sym, ap, ap₂, subst, ◌∙◌, arith}
use Rattle.std.specs.Prelude.{bit_or}
use Rattle.std.proofs.lemmas.Bool.{cases_eq, cond-true, cond-false}
use Rattle.std.proofs.lemmas.Nat.{pow_pos, or_comm}
use Rattle.std.proofs.Math.Nat.{pow-suc}
use Rattle.model_core.specs.Numbered.{number_at, is_clear}
use Rattle.buddy_core.specs.Tree.{orders, word, word_at, Shows, IsWith, Mended}
use Rattle.model_core.proofs.BlockHalves.{clear_same}
use Rattle.buddy_core.proofs.TreeNumbers.{halves, number_above, number_whole}
use Rattle.buddy_core.proofs.TreeOrders.{orders_clear, orders_halves, orders_same, word_whole, word_inside}
use Rattle.buddy_core.proofs.TreeNodes.{word_at-set_same, word_at-set_other, far_whole, far_half}

-- A frame of a block inside the changed block lies in the changed block. A frame of a block outside the changed block does not.
pub inside_with : (k f i e q x : ℕ) → i + e ≡ k → number_at e q ≡ number_at k f → number_at i x ≡ q → IsWith k f x
inside_with k f i e q x s a h = sym (number_above e i k x s) ∙ ap (λ n. number_at e n) h ∙ a

pub around_with : (k f i e q x : ℕ) → i + suc e ≡ k → number_at (suc e) q ≡ number_at k f → number_at (suc i) x ≡ q / 2 → IsWith k f x
around_with k f i e q x s a h = sym (number_above e (suc i) k x (omega arith)) ∙ ap (λ n. number_at e n) h ∙ number_above e 1 (suc e) q (omega arith) ∙ a

pub away : (k f i e q x : ℕ) → i + e ≡ k → (number_at e q ≡ number_at k f → ⊥) → number_at i x ≡ q → IsWith k f x → ⊥
away k f i e q x s off h w = off (ap (λ n. number_at e n) (sym h) ∙ number_above e i k x s ∙ w)

away_around : (k f i e q x : ℕ) → i + suc e ≡ k → (number_at (suc e) q ≡ number_at k f → ⊥) → number_at (suc i) x ≡ q / 2 → IsWith k f x → ⊥
away_around k f i e q x s off h w =
    off (sym (number_above e 1 (suc e) q (omega arith)) ∙ ap (λ n. number_at e n) (sym h) ∙ number_above e (suc i) k x (omega arith) ∙ w)

-- if `a` and `b` agree outside the changed block, each smaller block outside the changed block has the same word for `a` in the
-- whole tree as for `b` in a tree of order k + 1
only_place : (k f i e q : ℕ) → i + e ≡ k → (number_at e q ≡ number_at k f → ⊥) → (n : ℕ) → i + n ≡ k → number_at n q ≡ number_at k f → ⊥
only_place k f i e q s off n t r = off (subst (λ j. number_at j q ≡ number_at k f) (let same : n ≡ e = omega arith in same) r)

word_same : (a b : ℕ → Bool) (top k f i e q : ℕ) → ((x : ℕ) → (IsWith k f x → ⊥) → a x ≡ b x) → k ≤ top → i + suc e ≡ k
    → (number_at (suc e) q ≡ number_at k f → ⊥) → word a top i q ≡ word b (suc k) i q
word_same a b top k f i e q agree small s off =
    word_inside a top i q (omega arith)
    ∙ ap (λ t. cond t 0 (orders a i q)) (clear_same a b (suc i) (q / 2) (λ x h. agree x (away_around k f i e q x s off h)))
    ∙ ap (λ n. cond (is_clear b (suc i) (q / 2)) 0 n) (orders_same a b i q (λ x h. agree x (away k f i (suc e) q x s off h)))
    ∙ sym (word_inside b (suc k) i q (omega arith))

-- a block of an order below k has the same word in a tree of order k as in a tree of order k + 1
word_part : (ok : ℕ → Bool) (k i q : ℕ) → i < k → word ok k i q ≡ word ok (suc k) i q
word_part ok k i q h = word_inside ok k i q h ∙ sym (word_inside ok (suc k) i q (omega arith))

-- `before` and `after` are the words before and after one step up to block p of order k + 1
pub record Climbs (d k p : ℕ) (new : ℕ → Bool) (before after : List ℕ) : Type 0 where
  pub half : (q : ℕ) → q / 2 ≡ p → word_at after (suc d) q ≡ cond (is_clear new (suc k) p) 0 (orders new k q)
  pub whole : word_at after d p ≡ orders new (suc k) p
  pub other : (e q : ℕ) → q < 2 ^ e → (e ≡ suc d → q / 2 ≡ p → ⊥) → (e ≡ d → q ≡ p → ⊥) → word_at after e q ≡ word_at before e q

-- after a step up, the words inside the larger block are those of a separate tree for `new`
climb_within : (top k f d0 : ℕ) (old new : ℕ → Bool) (before after : List ℕ) → d0 + suc k ≡ top → ((x : ℕ) → (IsWith k f x → ⊥) → old x ≡ new x)
    → Mended top k f old new before → Climbs d0 k (number_at (suc k) f) new before after
    → (d i e q : ℕ) → d + i ≡ top → q < 2 ^ d → i + e ≡ suc k → number_at e q ≡ number_at (suc k) f → word_at after d q ≡ word new (suc k) i q
climb_within top k f d0 old new before after up agree m w d i zero q s h t a =
    let di : d0 ≡ d = omega arith in
    let ii : suc k ≡ i = omega arith in
    subst (λ j. word_at after d q ≡ word new (suc k) j q) ii
    (subst (λ n. word_at after d n ≡ word new (suc k) (suc k) n) (sym a)
    (subst (λ n. word_at after n (number_at (suc k) f) ≡ word new (suc k) (suc k) (number_at (suc k) f)) di
    (w.whole ∙ sym (word_whole new (suc k) (number_at (suc k) f)))))
climb_within top k f d0 old new before after up agree m w d i (suc zero) q s h t a =
    let di : suc d0 ≡ d = omega arith in
    let ii : k ≡ i = omega arith in
    subst (λ j. word_at after d q ≡ word new (suc k) j q) ii
    (subst (λ n. word_at after n q ≡ word new (suc k) k q) di
    (w.half q a ∙ sym (word_inside new (suc k) k q (omega arith) ∙ ap (λ n. cond (is_clear new (suc k) n) 0 (orders new k q)) a)))
climb_within top k f d0 old new before after up agree m w d i (suc (suc e)) q s h t a =
    w.other d q h (λ e1 _. omega arith) (λ e1 _. omega arith)
    ∙ elim (cases_eq (number_at (suc e) q) (number_at k f)) [
      | inl same ↦ m.within d i (suc e) q s h (omega arith) same ∙ word_part new k i q (omega arith)
      | inr off ↦ m.beyond d i q s h (only_place k f i (suc e) q (omega arith) off) ∙ word_same old new top k f i e q agree (omega arith) (omega arith) off
    ]

climb_beyond : (top k f d0 : ℕ) (old new : ℕ → Bool) (before after : List ℕ) → d0 + suc k ≡ top
    → Mended top k f old new before → Climbs d0 k (number_at (suc k) f) new before after
    → (d i q : ℕ) → d + i ≡ top → q < 2 ^ d → ((e : ℕ) → i + e ≡ suc k → number_at e q ≡ number_at (suc k) f → ⊥) → word_at after d q ≡ word old top i q
climb_beyond top k f d0 old new before after up m w d i q s h off =
    w.other d q h (λ e a. off 1 (omega arith) a) (λ e a. off 0 (omega arith) a)
    ∙ m.beyond d i q s h (λ e t a. off (suc e) (omega arith) (ap (λ n. n / 2) a))

pub climbs : (top k f d0 : ℕ) (old new : ℕ → Bool) (before after : List ℕ) → d0 + suc k ≡ top → ((x : ℕ) → (IsWith k f x → ⊥) → old x ≡ new x)
    → Mended top k f old new before → Climbs d0 k (number_at (suc k) f) new before after → Mended top (suc k) f old new after
climbs top k f d0 old new before after up agree m w = record {
  within = climb_within top k f d0 old new before after up agree m w;
  beyond = climb_beyond top k f d0 old new before after up m w;
}

-- if `Mended` holds for the whole superblock, the words show `new`
pub shows_mended : (top f : ℕ) (old new : ℕ → Bool) (words : List ℕ) → f < 2 ^ top → length words + 1 ≡ 2 ^ (top + 1) → Mended top top f old new words → Shows top new words
shows_mended top f old new words h size m = record {
  size = size;
  each = λ d k q s b. m.within d k d q s b (omega arith) (number_whole d q b ∙ sym (number_whole top f h));
}

-- each half of block p is r or s
either_half : (p r s q : ℕ) → r / 2 ≡ p → s + r ≡ 4 * p + 1 → q / 2 ≡ p → (q ≡ r) ⊎ (q ≡ s)
either_half p r s q a b e = elim (cases_eq q r) [ inl h ↦ inl h | inr h ↦ inr (omega (arith, h)) ]

-- if halves r and s have the words of separate trees and block p is not clear, a step up writes the bitwise or of these words
pub climbs_split : (d k p r s n v : ℕ) (new : ℕ → Bool) (words : List ℕ) → n ≡ 2 ^ d + p → p < 2 ^ d → n ≤ length words → r / 2 ≡ p → s + r ≡ 4 * p + 1
    → ((q : ℕ) → q / 2 ≡ p → word_at words (suc d) q ≡ orders new k q) → is_clear new (suc k) p ≡ false
    → v ≡ bit_or (orders new k r) (orders new k s) → Climbs d k p new words (set words (n - 1) v)
climbs_split d k p r s n v new words node small stored a b each off e =
    let some = pow_pos d in
    record {
      half = λ q h. word_at-set_other words (n - 1) v (suc d) q (λ x. omega (arith, pow-suc 2 d)) ∙ each q h ∙ sym (cond-false (is_clear new (suc k) p) 0 (orders new k q) off);
      whole = word_at-set_same words (n - 1) v d p (omega arith) (omega arith) ∙ e ∙ both (halves p r a) ∙ sym (orders_halves new k p off);
      other = λ e2 q h f g. word_at-set_other words (n - 1) v e2 q (λ x. far_whole d p n e2 q node small h g (omega arith));
    }
  where
    both : (r ≡ 2 * p) ⊎ (r ≡ 2 * p + 1) → bit_or (orders new k r) (orders new k s) ≡ bit_or (orders new k (2 * p)) (orders new k (2 * p + 1))
    both (inl low) = ap₂ (λ i j. bit_or (orders new k i) (orders new k j)) low (let high : s ≡ 2 * p + 1 = omega arith in high)
    both (inr high) = or_comm (orders new k r) (orders new k s) ∙ ap₂ (λ i j. bit_or (orders new k i) (orders new k j)) (let low : s ≡ 2 * p = omega arith in low) high

-- if block p is clear, a step up writes 0 for both halves and makes p one free block
pub climbs_join : (d k p r s n i j v : ℕ) (new : ℕ → Bool) (words : List ℕ) → n ≡ 2 ^ d + p → p < 2 ^ d → 2 * n < length words → r / 2 ≡ p → s + r ≡ 4 * p + 1
    → i + 1 ≡ 2 ^ suc d + s → j + 1 ≡ 2 ^ suc d + r → is_clear new (suc k) p ≡ true
    → Climbs d k p new (set words j v) (set (set (set words i 0) j 0) (n - 1) (2 ^ suc k))
climbs_join d k p r s n i j v new words node small stored a b here there clear =
    let some = pow_pos d in
    let one = set words i 0 in
    let two = set one j 0 in
    let len1 : length one ≡ length words = length-set words i 0 in
    let len2 : length two ≡ length one = length-set one j 0 in
    record {
      half = λ q e. word_at-set_other two (n - 1) (2 ^ suc k) (suc d) q (λ x. omega (arith, pow-suc 2 d))
          ∙ zero q (either_half p r s q a b e) ∙ sym (cond-true (is_clear new (suc k) p) 0 (orders new k q) clear);
      whole = word_at-set_same two (n - 1) (2 ^ suc k) d p (omega arith) (omega (arith, pow-suc 2 d)) ∙ sym (orders_clear new (suc k) p clear);
      other = λ e q h f g. word_at-set_other two (n - 1) (2 ^ suc k) e q (λ x. far_whole d p n e q node small h g (omega arith))
          ∙ word_at-set_other one j 0 e q (λ x. far_half d p r (j + 1) e q there a small h f x)
          ∙ word_at-set_other words i 0 e q (λ x. far_half d p s (i + 1) e q here (omega arith) small h f x)
          ∙ sym (word_at-set_other words j v e q (λ x. far_half d p r (j + 1) e q there a small h f x));
    }
  where
    zero : (q : ℕ) → (q ≡ r) ⊎ (q ≡ s) → word_at (set (set words i 0) j 0) (suc d) q ≡ 0
    zero q (inl e) =
        let len : length (set words i 0) ≡ length words = length-set words i 0 in
        word_at-set_same (set words i 0) j 0 (suc d) q (omega arith) (omega (arith, pow-suc 2 d))
    zero q (inr e) =
        word_at-set_other (set words i 0) j 0 (suc d) q (λ x. omega arith)
        ∙ word_at-set_same words i 0 (suc d) q (omega arith) (omega (arith, pow-suc 2 d))
