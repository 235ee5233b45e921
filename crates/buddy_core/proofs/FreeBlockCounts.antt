-- How the number of free blocks of one order changes when a block is taken out of the available frames.
use Rattle.std.proofs.Common.{◌≡◌, ◌⊎◌, inl, inr, refl, sym, ◌∙◌, ap, subst, ℕ, zero, suc, ◌+◌, ◌*◌, ◌/◌, ◌%◌, ◌^◌, ◌<◌, ◌≤◌, Bool, true, false, arith}
use Rattle.std.specs.Prelude.{slice_index}
use Rattle.std.proofs.lemmas.Bool.{cases_lt, cases_eq, cases_order, cases_Bool, both_ways, false_from_ne_true}
use Rattle.std.proofs.lemmas.Nat.{pow_pos, le-div}
use Rattle.model_core.specs.Blocks.{block, around, buddy, Taken, IsFree}
use Rattle.model_core.specs.Choice.{is_free, is_available, count_below}
use Rattle.model_core.specs.Numbered.{number_at, is_clear, IsOpen}
use Rattle.model_core.proofs.BlockHalves.{one_open, same_above, clear_at}
use Rattle.model_core.proofs.BlockTakenOut.{TakesOut, IsOtherHalf, open_after, open_stays, open_half}
use Rattle.model_core.proofs.BlocksByNumber.{free_is_open, open_is_free, same_first, aligned_first, number_around, same_slot}
use Rattle.model_core.proofs.FreeBlocks.{same_bool}
use Rattle.model_core.proofs.BuddyJoins.{buddy_is_half, buddy_aligned, only_buddy}
use Rattle.model_core.proofs.BlockChoice.{free_is_tested}
use Rattle.model_core.proofs.CountBelow.{bit, count_same}
use Rattle.buddy_core.specs.Stored.{StoredTenant}
use Rattle.buddy_core.specs.Counts.{IsTakenOut}

pub count_one : (p r : ℕ → Bool) (n x : ℕ) → x < n → p x ≡ false → r x ≡ true → ((f : ℕ) → f < n → (f ≡ x → ⊥) → p f ≡ r f) → count_below r n ≡ count_below p n + 1
count_one p r zero x lt off on same = absurd (omega arith)
count_one p r (suc n) x lt off on same = go (cases_eq x n) (count_one p r n x)
  where
    go : (x ≡ n) ⊎ (x ≡ n → ⊥) → (x < n → p x ≡ false → r x ≡ true → ((f : ℕ) → f < n → (f ≡ x → ⊥) → p f ≡ r f) → count_below r n ≡ count_below p n + 1)
        → count_below r n + bit (r n) ≡ count_below p n + bit (p n) + 1
    go (inl e) rest =
        let before : count_below p n ≡ count_below r n = count_same p r n (λ f f_lt. same f (omega arith) (λ f_x. absurd (omega arith))) in
        let last_p : bit (p n) ≡ 0 = ap bit (ap p (sym e) ∙ off) in
        let last_r : bit (r n) ≡ 1 = ap bit (ap r (sym e) ∙ on) in
        omega arith
    go (inr ne) rest =
        let before : count_below r n ≡ count_below p n + 1 = rest (omega arith) off on (λ f f_lt f_x. same f (omega arith) f_x) in
        let last : bit (p n) ≡ bit (r n) = ap bit (same n (omega arith) (λ e. ne (sym e))) in
        omega arith

-- if a number below n passes the test, the count is not 0
pub count_some : (p : ℕ → Bool) (n x : ℕ) → x < n → p x ≡ true → 0 < count_below p n
count_some p zero x lt on = absurd (omega arith)
count_some p (suc n) x lt on = go (cases_lt x n) (count_some p n x)
  where
    go : (x < n) ⊎ (n ≤ x) → (x < n → p x ≡ true → 0 < count_below p n) → 0 < count_below p n + bit (p n)
    go (inl below) rest = let before = rest below on in omega arith
    go (inr here) rest = let last : bit (p n) ≡ 1 = ap bit (ap p (let e : n ≡ x = omega arith in e) ∙ on) in omega arith

-- if the count is not 0, a number below n passes the test
pub count_found : (p : ℕ → Bool) (n : ℕ) → 0 < count_below p n → (f : ℕ) × (f < n) × (p f ≡ true)
count_found p zero some = absurd (omega arith)
count_found p (suc n) some = go (cases_Bool (p n)) (count_found p n)
  where
    go : (p n ≡ true) ⊎ (p n ≡ false) → (0 < count_below p n → (f : ℕ) × (f < n) × (p f ≡ true)) → (f : ℕ) × (f < suc n) × (p f ≡ true)
    go (inl on) rest = (n, omega arith, on)
    go (inr off) rest =
        let last : bit (p n) ≡ 0 = ap bit off in
        let found = rest (omega arith) in
        (found.0, omega (arith, found.1), found.2)

-- a frame of one of the first n slots is below n * 2 ^ top
pub frame_below : (top n x : ℕ) → x / 2 ^ top < n → x < n * 2 ^ top
frame_below top n x lt = go (cases_lt x (n * 2 ^ top))
  where
    go : (x < n * 2 ^ top) ⊎ (n * 2 ^ top ≤ x) → x < n * 2 ^ top
    go (inl below) = below
    go (inr above) = let le = le-div n x (2 ^ top) (pow_pos top) above in absurd (omega arith)

module _ (top : ℕ) (held held' : ℕ → Bool) (taken taken' : Taken) (f k j slots : ℕ) (out : TakesOut (is_available top held taken) (is_available top held' taken') top f k j) (within : f / 2 ^ top < slots) where
  abbrev pub large : ℕ → ℕ → Bool
  large i g = is_free top held taken (block g i)

  abbrev pub small : ℕ → ℕ → Bool
  small i g = is_free top held' taken' (block g i)

  -- a block that is free afterwards was free before, unless it is one of the halves that are split off
  kept_back : (i g : ℕ) → (k ≤ i → i < j → IsOtherHalf f i g → ⊥) → IsFree top held' taken' (block g i) → IsFree top held taken (block g i)
  kept_back i g off free = go (open_after (is_available top held taken) (is_available top held' taken') top f k j out i g (free_is_open top held' taken' (block g i) free))
    where
      go : (IsOpen (is_available top held taken) top i (number_at i g) × (i ≡ j → number_at i g ≡ number_at i f → ⊥)) ⊎ ((k ≤ i) × (i < j) × IsOtherHalf f i g) → IsFree top held taken (block g i)
      go (inl (is_open, _)) = open_is_free top held taken (block g i) free.0.1 is_open
      go (inr (le, lt, half)) = absurd (off le lt half)

  -- a free block stays free, unless it is the free block of order j out of which the block is taken
  kept_on : (i g : ℕ) → (i ≡ j → number_at i g ≡ number_at i f → ⊥) → IsFree top held taken (block g i) → IsFree top held' taken' (block g i)
  kept_on i g off free = open_is_free top held' taken' (block g i) free.0.1 (open_stays (is_available top held taken) (is_available top held' taken') top f k j out i g (free_is_open top held taken (block g i) free) off)

  agree : (i g : ℕ) → (k ≤ i → i < j → IsOtherHalf f i g → ⊥) → (i ≡ j → number_at i g ≡ number_at i f → ⊥) → small i g ≡ large i g
  agree i g off on = same_bool (small i g) (large i g)
      (λ e. (free_is_tested top held taken (block g i)).1 (kept_back i g off ((free_is_tested top held' taken' (block g i)).0 e)))
      (λ e. (free_is_tested top held' taken' (block g i)).1 (kept_on i g on ((free_is_tested top held taken (block g i)).0 e)))

  same_place : (i x : ℕ) → i ≤ top → number_at i x ≡ number_at i f → x < slots * 2 ^ top
  same_place i x le same = frame_below top slots x (subst (λ n. n < slots) (sym (same_slot top i x f le same)) within)

  -- the number of free blocks of an order below k or above j stays the same
  pub count_kept : (i : ℕ) → (i < k) ⊎ (j < i) → count_below (small i) (slots * 2 ^ top) ≡ count_below (large i) (slots * 2 ^ top)
  count_kept i apart = count_same (small i) (large i) (slots * 2 ^ top) (λ g lt. agree i g (λ le below half. not_between apart le below) (λ e same. not_at apart e))
    where
      le : k ≤ j
      le = out.order

      not_between : (i < k) ⊎ (j < i) → k ≤ i → i < j → ⊥
      not_between (inl a) b c = omega arith
      not_between (inr a) b c = omega arith

      not_at : (i < k) ⊎ (j < i) → i ≡ j → ⊥
      not_at (inl a) e = omega arith
      not_at (inr a) e = omega arith

  -- the first frame of the free block of order j out of which the block is taken
  abbrev pub whole : ℕ
  whole = f / 2 ^ j * 2 ^ j

  whole_free : IsFree top held taken (block whole j)
  whole_free = open_is_free top held taken (block whole j) (aligned_first (f / 2 ^ j) j) (subst (λ n. IsOpen (is_available top held taken) top j n) (sym (number_around f j)) out.open_block)

  pub count_split : count_below (large j) (slots * 2 ^ top) ≡ count_below (small j) (slots * 2 ^ top) + 1
  count_split = count_one (small j) (large j) (slots * 2 ^ top) whole (same_place j whole out.open_block.0 (number_around f j))
      (false_from_ne_true (small j whole) (λ e. not_small ((free_is_tested top held' taken' (block whole j)).0 e)))
      ((free_is_tested top held taken (block whole j)).1 whole_free)
      (λ g lt ne. same g ne (cases_Bool (small j g)) (cases_Bool (large j g)))
    where
      not_small : IsFree top held' taken' (block whole j) → ⊥
      not_small free = both_ways (is_available top held' taken' f) (out.inside f refl)
          (clear_at (is_available top held' taken') j f (ap (is_clear (is_available top held' taken') j) (sym (number_around f j)) ∙ (free_is_open top held' taken' (block whole j) free).1))

      elsewhere : (g : ℕ) → g % 2 ^ j ≡ 0 → (g ≡ whole → ⊥) → small j g ≡ large j g
      elsewhere g aligned ne = agree j g (λ le lt half. omega arith) (λ e same. ne (same_first g whole j aligned (aligned_first (f / 2 ^ j) j) (same ∙ sym (number_around f j))))

      same : (g : ℕ) → (g ≡ whole → ⊥) → (small j g ≡ true) ⊎ (small j g ≡ false) → (large j g ≡ true) ⊎ (large j g ≡ false) → small j g ≡ large j g
      same g ne (inl a) _ = elsewhere g ((free_is_tested top held' taken' (block g j)).0 a).0.1 ne
      same g ne (inr a) (inl b) = elsewhere g ((free_is_tested top held taken (block g j)).0 b).0.1 ne
      same g ne (inr a) (inr b) = a ∙ sym b

  pub whole_counts : 0 < count_below (large j) (slots * 2 ^ top)
  whole_counts = omega (arith, count_split)

  -- there is one more free block of each order i from k to j - 1: the buddy of the block of order i around frame f
  pub count_half : (i : ℕ) → k ≤ i → i < j → count_below (small i) (slots * 2 ^ top) ≡ count_below (large i) (slots * 2 ^ top) + 1
  count_half i up lt = count_one (large i) (small i) (slots * 2 ^ top) x x_within
      (false_from_ne_true (large i x) (λ e. not_large ((free_is_tested top held taken (block x i)).0 e)))
      ((free_is_tested top held' taken' (block x i)).1 x_free)
      (λ g g_lt ne. sym (same g ne (cases_Bool (small i g)) (cases_Bool (large i g))))
    where
      x : ℕ
      x = (buddy (around f i)).first

      half : IsOtherHalf f i x
      half = buddy_is_half f i

      top_le : j ≤ top
      top_le = out.open_block.0

      x_within : x < slots * 2 ^ top
      x_within = same_place (suc i) x (omega arith) half.one_whole

      x_free : IsFree top held' taken' (block x i)
      x_free = open_is_free top held' taken' (block x i) (buddy_aligned f i) (open_half (is_available top held taken) (is_available top held' taken') top f k j out i x up lt half)

      not_large : IsFree top held taken (block x i) → ⊥
      not_large free =
          let there : number_at j x ≡ number_at j f = same_above x f (suc i) j (omega arith) half.one_whole in
          let one = one_open (is_available top held taken) top i j x (free_is_open top held taken (block x i) free) (subst (λ n. IsOpen (is_available top held taken) top j n) (sym there) out.open_block) in
          omega arith

      elsewhere : (g : ℕ) → g % 2 ^ i ≡ 0 → (g ≡ x → ⊥) → small i g ≡ large i g
      elsewhere g aligned ne = agree i g (λ le below other. ne (ap (λ b. b.first) (only_buddy f i (block g i) refl aligned other))) (λ e same. omega arith)

      same : (g : ℕ) → (g ≡ x → ⊥) → (small i g ≡ true) ⊎ (small i g ≡ false) → (large i g ≡ true) ⊎ (large i g ≡ false) → small i g ≡ large i g
      same g ne (inl a) _ = elsewhere g ((free_is_tested top held' taken' (block g i)).0 a).0.1 ne
      same g ne (inr a) (inl b) = elsewhere g ((free_is_tested top held taken (block g i)).0 b).0.1 ne
      same g ne (inr a) (inr b) = a ∙ sym b

  pub half_counts : (i : ℕ) → k ≤ i → i < j → 0 < count_below (small i) (slots * 2 ^ top)
  half_counts i up lt = omega (arith, count_half i up lt)

  -- if a tenant's counts change as `IsTakenOut` says, each count of free blocks changes by as much as the number of
  -- free blocks of its order
  pub free_balance : (whole part : StoredTenant) → IsTakenOut k j whole part → (i : ℕ)
      → slice_index part.free i + count_below (large i) (slots * 2 ^ top) ≡ slice_index whole.free i + count_below (small i) (slots * 2 ^ top)
  free_balance whole part counts i = go (cases_order i j) (cases_lt i k)
    where
      go : (i ≡ j) ⊎ ((i < j) ⊎ (j < i)) → (i < k) ⊎ (k ≤ i) → slice_index part.free i + count_below (large i) (slots * 2 ^ top) ≡ slice_index whole.free i + count_below (small i) (slots * 2 ^ top)
      go (inr (inr above)) _ = let moved = counts.others i (inr above) in let same = count_kept i (inr above) in omega arith
      go (inr (inl below)) (inl low) = let moved = counts.others i (inl low) in let same = count_kept i (inl low) in omega arith
      go (inr (inl below)) (inr up) = let moved = counts.halves i up below in let half = count_half i up below in omega arith
      go (inl e) _ =
          let moved = counts.split in
          let split = count_split in
          let here : slice_index part.free j + count_below (large j) (slots * 2 ^ top) ≡ slice_index whole.free j + count_below (small j) (slots * 2 ^ top) = omega arith in
          subst (λ n. slice_index part.free n + count_below (large n) (slots * 2 ^ top) ≡ slice_index whole.free n + count_below (small n) (slots * 2 ^ top)) (sym e) here
