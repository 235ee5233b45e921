-- The words of a tree after the first write of a reserve or a release, and after each step up from there. `old` and `new` say
-- which frames are available before and after the change. A block is clear if all its frames are available.
use Rattle.std.proofs.Common.{◌≡◌, ℕ, zero, suc, ◌+◌, ◌-◌, ◌*◌, ◌/◌, ◌^◌, ◌<◌, ◌≤◌, Bool, true, false, cond, List, length, get_or, set, length-set, ◌⊎◌, inl, inr, refl, sym, ap, ap₂, subst, ◌∙◌, add-one, arith}
use Rattle.std.specs.Prelude.{bit_or}
use Rattle.std.proofs.lemmas.Bool.{and_from, both_ways, cases_eq, cases_lt, cond-true, cond-false, false_from_ne_true}
use Rattle.std.proofs.lemmas.List.{get_or-replicate, get_or_default, length-replicate, same_lists}
use Rattle.std.proofs.lemmas.Nat.{pow_pos, pow_below}
use Rattle.std.proofs.Math.Nat.{pow-suc}
use Rattle.model_core.specs.Numbered.{number_at, is_clear, IsOpen}
use Rattle.buddy_core.specs.Stored.{bare_tree}
use Rattle.buddy_core.specs.Tree.{orders, word, word_at, Shows, IsWith, IsLess, Mended, IsConfined}
use Rattle.model_core.proofs.BlockHalves.{clear_same, clear_from}
use Rattle.buddy_core.proofs.TreeNumbers.{halves, number_above, number_below, half_clear, inside_clear, frame_not_clear}
use Rattle.buddy_core.proofs.TreeOrders.{orders_clear, orders_none, orders_same, orders_whole, word_whole, word_inside}
use Rattle.buddy_core.proofs.TreeNodes.{node_stored, word_at-set_same, word_at-set_other, far_whole, far_half}
use Rattle.buddy_core.proofs.TreeClimb.{inside_with, around_with, away, climbs, climbs_split, climbs_join}

-- a bare tree has a word for each node
pub bare_size : (top : ℕ) → length (bare_tree top).words + 1 ≡ 2 ^ (top + 1)
bare_size top = let size = length-replicate {A = ℕ} (2 ^ (top + 1) - 1) 0 in let some = pow_pos (top + 1) in omega arith

-- inside a block with no available frame, or strictly inside a block whose frames are all available, all words are 0
zero_either : (b : Bool) (n : ℕ) → n ≡ 0 → cond b 0 n ≡ 0
zero_either true n e = refl
zero_either false n e = e

word_taken : (ok : ℕ → Bool) (top k f i e q : ℕ) → ((x : ℕ) → IsWith k f x → ok x ≡ false) → i + e ≡ k → number_at e q ≡ number_at k f → word ok top i q ≡ 0
word_taken ok top k f i e q none s a = zero_either _ (orders ok i q) (orders_none ok i q (λ x h. none x (inside_with k f i e q x s a h)))

word_free : (ok : ℕ → Bool) (top k f i e q : ℕ) → ((x : ℕ) → IsWith k f x → ok x ≡ true) → i < top → i + suc e ≡ k → number_at (suc e) q ≡ number_at k f → word ok top i q ≡ 0
word_free ok top k f i e q all small s a =
    word_inside ok top i q small ∙ cond-true _ 0 (orders ok i q) (clear_from ok (suc i) (q / 2) (λ x h. all x (around_with k f i e q x s a h)))

-- after the word of the changed block is written, the words inside this block are those that they would be for `new` if the block
-- had a tree of its own
start_within : (top k d f v : ℕ) (old new : ℕ → Bool) (words : List ℕ) → d + k ≡ top → f < 2 ^ top → Shows top old words
    → v ≡ orders new k (number_at k f)
    → ((i e q : ℕ) → i + suc e ≡ k → number_at (suc e) q ≡ number_at k f → word old top i q ≡ word new k i q)
    → (n : ℕ) → n ≡ 2 ^ d + number_at k f
    → (d1 i e q : ℕ) → d1 + i ≡ top → q < 2 ^ d1 → i + e ≡ k → number_at e q ≡ number_at k f → word_at (set words (n - 1) v) d1 q ≡ word new k i q
start_within top k d f v old new words s b shows there part n node d1 i zero q t h a r =
    let small = number_below d k f (subst (λ j. f < 2 ^ j) (sym s) b) in
    let stored = node_stored top d k (number_at k f) words shows.size s small in
    let depth : d1 ≡ d = omega arith in
    let order : k ≡ i = omega arith in
    let some = pow_pos d in
    let here = word_at-set_same words (n - 1) v d q (omega arith) (omega arith) in
    subst (λ j. word_at (set words (n - 1) v) j q ≡ v) (sym depth) here ∙ there ∙ ap (λ j. orders new k j) (sym r) ∙ sym (word_whole new k q)
    ∙ ap (λ j. word new k j q) order
start_within top k d f v old new words s b shows there part n node d1 i (suc e) q t h a r =
    let small = number_below d k f (subst (λ j. f < 2 ^ j) (sym s) b) in
    let some = pow_pos d in
    word_at-set_other words (n - 1) v d1 q (λ x. far_whole d (number_at k f) n d1 q node small h (λ y _. omega arith) (omega arith))
    ∙ shows.each d1 i q t h ∙ part i e q a r

start : (top k d f v : ℕ) (old new : ℕ → Bool) (words : List ℕ) → d + k ≡ top → f < 2 ^ top → Shows top old words
    → v ≡ orders new k (number_at k f)
    → ((i e q : ℕ) → i + suc e ≡ k → number_at (suc e) q ≡ number_at k f → word old top i q ≡ word new k i q)
    → (n : ℕ) → n ≡ 2 ^ d + number_at k f → Mended top k f old new (set words (n - 1) v)
start top k d f v old new words s b shows there part n node = record {
  within = start_within top k d f v old new words s b shows there part n node;
  beyond = λ d1 i q t h off.
      let small = number_below d k f (subst (λ j. f < 2 ^ j) (sym s) b) in
      let some = pow_pos d in
      word_at-set_other words (n - 1) v d1 q (λ x. far_whole d (number_at k f) n d1 q node small h (λ y r. off 0 (omega arith) r) (omega arith))
      ∙ shows.each d1 i q t h;
}

pub start_reserve : (top k d f : ℕ) (large small : ℕ → Bool) (words : List ℕ) → d + k ≡ top → f < 2 ^ top → Shows top large words → IsLess small large k f
    → (n : ℕ) → n ≡ 2 ^ d + number_at k f → Mended top k f large small (set words (n - 1) 0)
start_reserve top k d f large small words s b shows less =
    start top k d f 0 large small words s b shows
    (sym (orders_none small k (number_at k f) (λ x h. less.gone x h)))
    (λ i e q t a. word_free large top k f i e q less.was (omega arith) t a ∙ sym (word_taken small k k f i (suc e) q less.gone t a))

pub start_release : (top k d f : ℕ) (small large : ℕ → Bool) (words : List ℕ) → d + k ≡ top → f < 2 ^ top → Shows top small words → IsLess small large k f
    → (n : ℕ) → n ≡ 2 ^ d + number_at k f → Mended top k f small large (set words (n - 1) (2 ^ k))
start_release top k d f small large words s b shows less =
    start top k d f (2 ^ k) small large words s b shows
    (sym (orders_clear large k (number_at k f) (clear_from large k (number_at k f) (λ x h. less.was x h))))
    (λ i e q t a. word_taken small top k f i (suc e) q less.gone t a ∙ sym (word_free large k k f i e q less.was (omega arith) t a))

-- two tests that agree outside a block agree outside every larger block around it
agree_above : (a b : ℕ → Bool) (k n m f : ℕ) → k + n ≡ m → ((x : ℕ) → (IsWith k f x → ⊥) → a x ≡ b x) → (x : ℕ) → (IsWith m f x → ⊥) → a x ≡ b x
agree_above a b k n m f s same x off = same x (λ w. off (sym (number_above n k m x s) ∙ ap (λ i. number_at n i) w ∙ number_above n k m f s))

-- If the block of order k + 1 around the changed block was not clear, each of its halves has the word that it would have for
-- `new` as the root of a tree of its own.
halves_stand : (top k f d : ℕ) (old new : ℕ → Bool) (words : List ℕ) → d + suc k ≡ top → ((x : ℕ) → (IsWith k f x → ⊥) → old x ≡ new x)
    → Mended top k f old new words → is_clear old (suc k) (number_at (suc k) f) ≡ false
    → (q : ℕ) → q / 2 ≡ number_at (suc k) f → q < 2 ^ suc d → word_at words (suc d) q ≡ orders new k q
halves_stand top k f d old new words s agree m off q e b = elim (cases_eq q (number_at k f)) [
  | inl same ↦ m.within (suc d) k 0 q (omega arith) b (omega arith) same ∙ word_whole new k q
  | inr ne ↦ m.beyond (suc d) k q (omega arith) b (only k 0 q ne) ∙ word_inside old top k q (omega arith)
      ∙ cond-false _ 0 (orders old k q) (ap (λ i. is_clear old (suc k) i) e ∙ off)
      ∙ orders_same old new k q (λ x h. agree x (away k f k 0 q x (omega arith) ne h))
]
  where
    only : (i e q : ℕ) → (q ≡ number_at k f → ⊥) → (n : ℕ) → k + n ≡ k → number_at n q ≡ number_at k f → ⊥
    only i e q ne n t a = ne (subst (λ j. number_at j q ≡ number_at k f) (let z : n ≡ 0 = omega arith in z) a)

-- the word of the changed block is `orders` of this block for `new`
word_changed : (top k f d : ℕ) (old new : ℕ → Bool) (words : List ℕ) → f < 2 ^ top → d + k ≡ top → Mended top k f old new words
    → word_at words d (number_at k f) ≡ orders new k (number_at k f)
word_changed top k f d old new words b s m =
    m.within d k 0 (number_at k f) s (number_below d k f (subst (λ j. f < 2 ^ j) (sym s) b)) (omega arith) refl ∙ word_whole new k (number_at k f)

pub confined_up : (top k f : ℕ) (old new : ℕ → Bool) → IsConfined top k f old new → IsConfined top (suc k) f old new
confined_up top k f old new c = record {
  same = agree_above old new k 1 (suc k) f (omega arith) c.same;
  before = λ i le lt. c.before i (omega arith) lt;
  after = λ i le lt. c.after i (omega arith) lt;
}

-- Suppose that the block of order k + 1 around frame f is clear neither before nor after the change. Then a step up writes v, the
-- bitwise or of the words of the block's halves. Here s is the number of the half that does not contain f.
pub climb_step : (top k f d : ℕ) (old new : ℕ → Bool) (words : List ℕ) → f < 2 ^ top → length words + 1 ≡ 2 ^ (top + 1) → d + suc k ≡ top
    → IsConfined top k f old new → Mended top k f old new words → (n s v : ℕ) → n ≡ 2 ^ d + number_at (suc k) f → s + number_at k f ≡ 4 * number_at (suc k) f + 1
    → v ≡ bit_or (word_at words (suc d) (number_at k f)) (word_at words (suc d) s) → Mended top (suc k) f old new (set words (n - 1) v)
climb_step top k f d old new words b size t c m n s v node pair e =
    let p = number_at (suc k) f in
    let small : p < 2 ^ d = number_below d (suc k) f (subst (λ j. f < 2 ^ j) (sym t) b) in
    let stored = node_stored top d (suc k) p words size t small in
    let each : (q : ℕ) → q / 2 ≡ p → word_at words (suc d) q ≡ orders new k q
    = λ q h. halves_stand top k f d old new words t c.same m (c.before k (omega arith) (omega arith)) q h (omega (arith, pow-suc 2 d)) in
    climbs top k f d old new words (set words (n - 1) v) t c.same m
    (climbs_split d k p (number_at k f) s n v new words node small (omega arith) refl pair each (c.after k (omega arith) (omega arith))
    (e ∙ ap₂ (λ i j. bit_or i j) (each (number_at k f) refl) (each s (omega arith))))

-- if the block of order k + 1 around frame f was clear and is not clear now, a step up makes one free block of the half that does
-- not contain f
up_split : (top k f d : ℕ) (old new : ℕ → Bool) (words : List ℕ) → f < 2 ^ top → length words + 1 ≡ 2 ^ (top + 1) → d + suc k ≡ top
    → ((x : ℕ) → (IsWith k f x → ⊥) → old x ≡ new x) → Mended top k f old new words → is_clear old (suc k) (number_at (suc k) f) ≡ true
    → is_clear new (suc k) (number_at (suc k) f) ≡ false → (n r : ℕ) → n ≡ 2 ^ d + number_at (suc k) f → r + number_at k f ≡ 4 * number_at (suc k) f + 1
    → (i v : ℕ) → i + 1 ≡ 2 ^ suc d + r → v ≡ bit_or (word_at words (suc d) (number_at k f)) (2 ^ k)
    → Mended top (suc k) f old new (set (set words i (2 ^ k)) (n - 1) v)
up_split top k f d old new words b size s agree m free off n r node pair i v place e =
    let p = number_at (suc k) f in
    let after = set words i (2 ^ k) in
    let small : p < 2 ^ d = number_below d (suc k) f (subst (λ j. f < 2 ^ j) (sym s) b) in
    let stored = node_stored top d (suc k) p words size s small in
    let other = node_stored top (suc d) k r words size (omega arith) (omega (arith, pow-suc 2 d)) in
    let len : length after ≡ length words = length-set words i (2 ^ k) in
    let here = word_changed top k f (suc d) old new words b (omega arith) m in
    let there : (q : ℕ) → (q ≡ number_at k f → ⊥) → q / 2 ≡ p → orders new k q ≡ 2 ^ k
    = λ q ne h. orders_clear new k q (sym (clear_same old new k q (λ x at. agree x (away k f k 0 q x (omega arith) ne at))) ∙ half_clear old k p q free h) in
    let each : (q : ℕ) → q / 2 ≡ p → word_at after (suc d) q ≡ orders new k q = λ q h. elim (cases_eq q (number_at k f)) [
      | inl same ↦ word_at-set_other words i (2 ^ k) (suc d) q (λ x. omega arith)
          ∙ subst (λ j. word_at words (suc d) j ≡ orders new k j) (sym same) here
      | inr ne ↦ word_at-set_same words i (2 ^ k) (suc d) q (omega arith) (omega arith) ∙ sym (there q ne h)
    ] in
    let up = climbs_split d k p (number_at k f) r n v new after node small (omega arith) refl pair each off
    (e ∙ ap₂ (λ a b. bit_or a b) here (sym (there r (λ x. omega arith) (omega arith)))) in
    climbs top k f d old new words (set after (n - 1) v) s agree m (record {
      half = up.half;
      whole = up.whole;
      other = λ e2 q h a1 a2. up.other e2 q h a1 a2
          ∙ word_at-set_other words i (2 ^ k) e2 q (λ x. far_half d p r (i + 1) e2 q place (omega arith) small h a1 x);
    })

-- if the block of order `from` around frame f is free, every block around f up to this order is clear, and no larger block around
-- f is clear
free_up : (ok : ℕ → Bool) (top from k f : ℕ) → IsOpen ok top from (number_at from f) → k < from → is_clear ok (suc k) (number_at (suc k) f) ≡ true
free_up ok top from k f (small, clear, around) h =
    let n = from - suc k in
    inside_clear ok n (suc k) from (number_at (suc k) f) (omega arith)
    (subst (λ i. is_clear ok from i ≡ true) (sym (number_above n (suc k) from f (omega arith))) clear)

split_up : (ok : ℕ → Bool) (top from k f : ℕ) → IsOpen ok top from (number_at from f) → from ≤ k → k < top → is_clear ok (suc k) (number_at (suc k) f) ≡ false
split_up ok top from k f (small, clear, around) h lt =
    let n = k - from in
    false_from_ne_true _ (λ t. elim around [
      | inl e ↦ omega arith
      | inr off ↦ both_ways (is_clear ok (suc from) (number_at (suc from) f)) off
          (inside_clear ok n (suc from) (suc k) (number_at (suc from) f) (omega arith)
          (subst (λ i. is_clear ok (suc k) i ≡ true) (sym (number_above n (suc from) (suc k) f (omega arith))) t))
    ])

pub reserve_split : (top order from k f d : ℕ) (large small : ℕ → Bool) (words : List ℕ) → f < 2 ^ top → length words + 1 ≡ 2 ^ (top + 1) → d + suc k ≡ top
    → order ≤ k → IsLess small large order f → IsOpen large top from (number_at from f) → k < from → Mended top k f large small words
    → (n r : ℕ) → n ≡ 2 ^ d + number_at (suc k) f → r + number_at k f ≡ 4 * number_at (suc k) f + 1
    → (i v : ℕ) → i + 1 ≡ 2 ^ suc d + r → v ≡ bit_or (word_at words (suc d) (number_at k f)) (2 ^ k)
    → Mended top (suc k) f large small (set (set words i (2 ^ k)) (n - 1) v)
reserve_split top order from k f d large small words b size s le less free lt m =
    up_split top k f d large small words b size s
    (agree_above large small order (k - order) k f (omega arith) (λ x off. sym (less.kept x off))) m (free_up large top from k f free lt)
    (frame_not_clear small (suc k) f (less.gone f refl))

-- a reserve or a release changes only frames of one block, and no larger block around it is clear before or after
pub reserve_confined : (top order from f : ℕ) (large small : ℕ → Bool) → order ≤ from → IsLess small large order f → IsOpen large top from (number_at from f)
    → IsConfined top from f large small
reserve_confined top order from f large small le less free = record {
  same = agree_above large small order (from - order) from f (omega arith) (λ x off. sym (less.kept x off));
  before = λ i up lt. split_up large top from i f free up lt;
  after = λ i up lt. frame_not_clear small (suc i) f (less.gone f refl);
}

pub release_confined : (top order joined f : ℕ) (small large : ℕ → Bool) → order ≤ joined → IsLess small large order f → IsOpen large top joined (number_at joined f)
    → IsConfined top joined f small large
release_confined top order joined f small large le less free = record {
  same = agree_above small large order (joined - order) joined f (omega arith) less.kept;
  before = λ i up lt. frame_not_clear small (suc i) f (less.gone f refl);
  after = λ i up lt. split_up large top joined i f free up lt;
}

changed_clear : (top k f d : ℕ) (small large : ℕ → Bool) (words : List ℕ) → f < 2 ^ top → length words + 1 ≡ 2 ^ (top + 1) → d + k ≡ top
    → (n : ℕ) → n ≡ 2 ^ d + number_at k f → Mended top k f small large (set words (n - 1) (2 ^ k)) → is_clear large k (number_at k f) ≡ true
changed_clear top k f d small large words b size s n node m =
    let below = number_below d k f (subst (λ j. f < 2 ^ j) (sym s) b) in
    let stored = node_stored top d k (number_at k f) words size s below in
    orders_whole large k (number_at k f) (sym (word_changed top k f d small large _ b s m)
    ∙ word_at-set_same words (n - 1) (2 ^ k) d (number_at k f) (omega (arith, pow_pos d)) (omega (arith, pow_pos d)))

-- One step up from node m, whose block of order k is made available. The buddy has number r, and its word is at index i.
module _ (top order k f d : ℕ) (small large : ℕ → Bool) (words : List ℕ) (b : f < 2 ^ top) (size : length words + 1 ≡ 2 ^ (top + 1)) (s : d + suc k ≡ top)
    (le : order ≤ k) (less : IsLess small large order f) (m r : ℕ) (there : m ≡ 2 ^ suc d + number_at k f) (pair : r + number_at k f ≡ 4 * number_at (suc k) f + 1)
    (mended : Mended top k f small large (set words (m - 1) (2 ^ k))) (i : ℕ) (here : i + 1 ≡ 2 ^ suc d + r) where
  below : number_at (suc k) f < 2 ^ d
  below = number_below d (suc k) f (subst (λ j. f < 2 ^ j) (sym s) b)

  agree : (x : ℕ) → (IsWith k f x → ⊥) → small x ≡ large x
  agree = agree_above small large order (k - order) k f (omega arith) less.kept

  -- the stored word of the buddy has the orders of the free blocks inside the buddy
  other_word : get_or words i 0 ≡ orders large k r
  other_word =
      let lt = below in
      ap (λ j. get_or words j 0) (let e : i ≡ 2 ^ suc d + r - 1 = omega arith in e)
      ∙ sym (word_at-set_other words (m - 1) (2 ^ k) (suc d) r (λ x. omega (arith, pow_pos d)))
      ∙ halves_stand top k f d small large _ s agree mended (frame_not_clear small (suc k) f (less.gone f refl)) r (omega arith) (omega (arith, pow-suc 2 d))

  clear_here : is_clear large k (number_at k f) ≡ true
  clear_here = changed_clear top k f (suc d) small large words b size (omega arith) m there mended

  -- if the buddy is one free block, the step makes the block and its buddy one free block, whose halves have the word 0
  pub release_join : (n : ℕ) → get_or words i 0 ≡ 2 ^ k → n ≡ 2 ^ d + number_at (suc k) f
      → Mended top (suc k) f small large (set (set (set words i 0) (m - 1) 0) (n - 1) (2 ^ suc k))
  release_join n free node =
      let lt = below in
      let stored = node_stored top (suc d) k (2 * number_at (suc k) f + 1) words size (omega arith) (omega (arith, pow-suc 2 d)) in
      let some = pow_pos d in
      climbs top k f d small large (set words (m - 1) (2 ^ k)) _ s agree mended
      (climbs_join d k (number_at (suc k) f) (number_at k f) r n i (m - 1) (2 ^ k) large words node below (omega (arith, pow-suc 2 d)) refl pair here (omega arith)
      (both (halves (number_at (suc k) f) (number_at k f) refl) clear_here (orders_whole large k r (sym other_word ∙ free))))
    where
      both : (number_at k f ≡ 2 * number_at (suc k) f) ⊎ (number_at k f ≡ 2 * number_at (suc k) f + 1) → is_clear large k (number_at k f) ≡ true → is_clear large k r ≡ true
          → is_clear large (suc k) (number_at (suc k) f) ≡ true
      both (inl low) a c = and_from _ _ (subst (λ j. is_clear large k j ≡ true) low a) (subst (λ j. is_clear large k j ≡ true) (let e : r ≡ 2 * number_at (suc k) f + 1 = omega arith in e) c)
      both (inr high) a c = and_from _ _ (subst (λ j. is_clear large k j ≡ true) (let e : r ≡ 2 * number_at (suc k) f = omega arith in e) c) (subst (λ j. is_clear large k j ≡ true) high a)

  -- if the buddy is not one free block, the block of order k is a free block
  pub release_open : (get_or words i 0 ≡ 2 ^ k → ⊥) → IsOpen large top k (number_at k f)
  release_open ne =
      (omega arith, clear_here, inr (false_from_ne_true _ (λ t. ne (other_word ∙ orders_clear large k r (half_clear large k (number_at (suc k) f) r t (omega arith))))))

pub release_whole : (top f : ℕ) (small large : ℕ → Bool) (words : List ℕ) → f < 2 ^ top → length words + 1 ≡ 2 ^ (top + 1)
    → (m : ℕ) → m ≡ 2 ^ 0 + number_at top f → Mended top top f small large (set words (m - 1) (2 ^ top)) → IsOpen large top top (number_at top f)
release_whole top f small large words b size m there mended =
    (omega arith, changed_clear top top f 0 small large words b size (omega arith) m there mended, inl refl)

-- the words of a bare tree show a superblock in which no frame is available
pub shows_none : (top : ℕ) → Shows top (λ _. false) (bare_tree top).words
shows_none top = record {
  size = size;
  each = λ d k q s b.
      let stored = node_stored top d k q (bare_tree top).words size s b in
      get_or-replicate (2 ^ (top + 1) - 1) (2 ^ d + q - 1) 0 0 (omega (arith, length-replicate {A = ℕ} (2 ^ (top + 1) - 1) 0, pow_pos d))
      ∙ sym (zero_either _ _ (orders_none (λ _. false) k q (λ x h. refl)));
}
  where
    size : length (bare_tree top).words + 1 ≡ 2 ^ (top + 1)
    size = bare_size top

-- with 2 ^ top as the root word, the words of a bare tree show a superblock in which every frame is available
pub shows_all : (top : ℕ) (words : List ℕ) (n : ℕ) → words ≡ (bare_tree top).words → n ≡ 2 ^ top → Shows top (λ _. true) (set words 0 n)
shows_all top words n bare e =
    let some = pow_pos top in
    let len : length (set words 0 n) ≡ length words = length-set words 0 n in
    let size = shows.size in
    record {
      size = omega arith;
      each = λ d k q s b. go d k q s b;
    }
  where
    shows : Shows top (λ _. false) words
    shows = subst (λ (ws : List ℕ). Shows top (λ _. false) ws) (sym bare) (shows_none top)

    go : (d k q : ℕ) → d + k ≡ top → q < 2 ^ d → word_at (set words 0 n) d q ≡ word (λ _. true) top k q
    go zero k q s b =
        let whole : k ≡ top = omega arith in
        let stored = node_stored top 0 k q words shows.size s b in
        word_at-set_same words 0 n 0 q (omega arith) (omega arith) ∙ e ∙ ap (λ i. 2 ^ i) (sym whole)
        ∙ sym (orders_clear (λ _. true) k q (clear_from (λ _. true) k q (λ x h. refl))) ∙ sym (word_whole (λ _. true) k q) ∙ ap (λ i. word (λ _. true) i k q) whole
    go (suc d) k q s b =
        word_at-set_other words 0 n (suc d) q (λ x. omega (arith, pow-suc 2 d, pow_pos d)) ∙ shows.each (suc d) k q s b
        ∙ zero_either _ _ (orders_none (λ _. false) k q (λ x h. refl))
        ∙ sym (word_inside (λ _. true) top k q (omega arith) ∙ cond-true _ 0 _ (clear_from (λ _. true) (suc k) (q / 2) (λ x h. refl)))

-- each number below 2 ^ (top + 1), except 0, is the node of a block
node_place : (top n : ℕ) → 0 < n → n < 2 ^ (top + 1) → (d : ℕ) × (q : ℕ) × (d ≤ top) × (q < 2 ^ d) × (n ≡ 2 ^ d + q)
node_place zero n some small = (0, 0, omega arith, omega arith, omega arith)
node_place (suc top) n some small = elim (cases_lt n (2 ^ (top + 1))) [
  | inl lt ↦ let (d, q, le, within, e) = node_place top n some lt in (d, q, omega arith, within, e)
  | inr ge ↦ (suc top, n - 2 ^ suc top, omega arith, omega (arith, pow-suc 2 (suc top), ap (λ i. 2 ^ i) (add-one top), ap (λ i. 2 ^ i) (add-one (suc top))), omega (arith, ap (λ i. 2 ^ i) (add-one top)))
]

-- the available frames determine the words
words_shown : (top : ℕ) (ok : ℕ → Bool) (xs ys : List ℕ) → Shows top ok xs → Shows top ok ys → xs ≡ ys
words_shown top ok xs ys a b =
    let size = a.size in
    let size' = b.size in
    same_lists xs ys (omega arith) (λ i v lt.
    let (d, q, le, within, e) = node_place top (i + 1) (omega arith) (omega arith) in
    let at : i ≡ 2 ^ d + q - 1 = omega arith in
    let depth : d + (top - d) ≡ top = omega arith in
    get_or_default xs i v 0 lt
    ∙ ap (λ n. get_or xs n 0) at ∙ a.each d (top - d) q depth within
    ∙ sym (b.each d (top - d) q depth within) ∙ sym (ap (λ n. get_or ys n 0) at)
    ∙ get_or_default ys i 0 v (omega arith))

-- if every frame of a superblock is available, the words with 0 as the root word are those of a bare tree
pub bare_again : (top : ℕ) (words : List ℕ) → Shows top (λ _. true) words → set words 0 0 ≡ (bare_tree top).words
bare_again top words shows =
    let len = length-set words 0 0 in
    let size = shows.size in
    words_shown top (λ _. false) (set words 0 0) (bare_tree top).words (record {
      size = omega arith;
      each = λ d k q s b. go d k q s b ∙ sym (zero_either _ _ (orders_none (λ _. false) k q (λ x h. refl)));
    }) (shows_none top)
  where
    go : (d k q : ℕ) → d + k ≡ top → q < 2 ^ d → word_at (set words 0 0) d q ≡ 0
    go zero k q s b = let size = shows.size in let some = pow_below 0 (top + 1) (omega arith) in word_at-set_same words 0 0 0 q (omega arith) (omega arith)
    go (suc d) k q s b =
        word_at-set_other words 0 0 (suc d) q (λ x. omega (arith, pow-suc 2 d, pow_pos d)) ∙ shows.each (suc d) k q s b
        ∙ word_inside (λ _. true) top k q (omega arith) ∙ cond-true _ 0 _ (clear_from (λ _. true) (suc k) (q / 2) (λ x h. refl))
