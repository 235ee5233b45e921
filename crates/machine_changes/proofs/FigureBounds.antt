-- The taken blocks of a tenant are disjoint and lie in its slots. So together they have at most as many frames as the slots.
use Rattle.std.proofs.Common.{◌≡◌, ℕ, zero, suc, ◌+◌, ◌-◌, ◌*◌, ◌/◌, ◌^◌, ◌<◌, ◌≤◌, Bool, true, Option, Some, None, List, length, take, get_or, refl, sym, ap, ◌∙◌, subst, ⊎_elim, add-one, arith}
use Rattle.std.specs.Prelude.{is_some}
use Rattle.std.specs.List.{sum_by, count_by}
use Rattle.std.proofs.Math.Nat.{add-mul, zero-mul, mul_comm, mul-one, div-eq_of_lt-le, div-lt_iff_lt-mul}
use Rattle.std.proofs.Math.Seq.{take-length}
use Rattle.std.proofs.lemmas.Bool.{cases_lt, false≢true}
use Rattle.std.proofs.lemmas.List.{get_or_past}
use Rattle.std.proofs.lemmas.List.Sums.{sum_by_more, count_by-le-length}
use Rattle.std.proofs.lemmas.Nat.{mul-le, pow_pos}
use Rattle.model_core.specs.declared.limits.TheConstants.{WIDE_FRAMES}
use Rattle.model_core.specs.Blocks.{block, IsSound}
use Rattle.model_core.specs.Choice.{is_free, count_below}
use Rattle.model_core.proofs.BlocksApart.{has_first}
use Rattle.model_core.proofs.BlocksByNumber.{number_of_frame, same_slot}
use Rattle.model_core.proofs.CountBelow.{bit, count_le}
use Rattle.buddy_core.specs.Content as buddies
use Rattle.machine_changes.specs.Figures.{frames_below, FiguresFit}
use Rattle.machine_changes.proofs.FigureOrders.{size, sizes_by_order, frames_rise}

-- How many numbers below a bound pass a test

-- n more numbers add n to the count if all of them pass the test, and 0 if none of them does
count_run : (p : ℕ → Bool) (v : Bool) (a n : ℕ) → ((x : ℕ) → a ≤ x → x < a + n → p x ≡ v) → count_below p (a + n) ≡ count_below p a + n * bit v
count_run p v a zero all = let same : a + 0 ≡ a = omega arith in let e : count_below p (a + 0) ≡ count_below p a = ap (count_below p) same in omega (arith, zero-mul (bit v))
count_run p v a (suc n) all =
    let before : count_below p (a + n) ≡ count_below p a + n * bit v = count_run p v a n (λ x low high. all x low (omega arith)) in
    let next : count_below p (a + suc n) ≡ count_below p (a + n) + bit (p (a + n)) = ap (count_below p) (let e : a + suc n ≡ suc (a + n) = omega arith in e) in
    let last : bit (p (a + n)) ≡ bit v = ap bit (all (a + n) (omega arith) (omega arith)) in
    let product : suc n * bit v ≡ n * bit v + bit v = omega (arith, add-mul n 1 (bit v)) in
    omega arith

count_rise : (p : ℕ → Bool) (n m : ℕ) → n ≤ m → count_below p n ≤ count_below p m
count_rise p n zero le = let same : n ≡ 0 = omega arith in let e : count_below p n ≡ 0 = ap (count_below p) same in omega arith
count_rise p n (suc m) le = ⊎_elim
    (λ (less : n < suc m). let before : count_below p n ≤ count_below p m = count_rise p n m (omega arith) in omega arith)
    (λ past. let same : n ≡ suc m = omega arith in let e : count_below p n ≡ count_below p (suc m) = ap (count_below p) same in omega arith)
    (cases_lt n (suc m))

-- the number of indexes below n at which a table has an entry is the number of entries among its first n elements
count_table : (table : List (Option ℕ)) (n : ℕ) → n ≤ length table → count_below (λ u. is_some (get_or table u None)) n ≡ count_by is_some (take n table)
count_table table zero le = refl
count_table table (suc n) le =
    let before = count_table table n (omega arith) in
    let more = sum_by_more (λ o. bit (is_some o)) table n None (omega arith) in
    let next : count_by is_some (take (suc n) table) ≡ count_by is_some (take (n + 1) table) = ap (λ k. count_by is_some (take k table)) (sym (add-one n)) in
    omega arith

-- if k of the first n slots pass the test, exactly k * 2 ^ top frames of the first n slots lie in slots that pass
count_slots : (top : ℕ) (held : ℕ → Bool) (n : ℕ) → count_below (λ x. held (x / 2 ^ top)) (n * 2 ^ top) ≡ count_below held n * 2 ^ top
count_slots top held zero = ap (count_below (λ x. held (x / 2 ^ top))) (zero-mul (2 ^ top)) ∙ sym (zero-mul (2 ^ top))
count_slots top held (suc n) =
    let z : ℕ = 2 ^ top in
    let long : suc n * z ≡ n * z + z = omega (arith, add-mul n 1 z) in
    let before : count_below (λ x. held (x / 2 ^ top)) (n * z) ≡ count_below held n * z = count_slots top held n in
    let run : count_below (λ x. held (x / 2 ^ top)) (n * z + z) ≡ count_below (λ x. held (x / 2 ^ top)) (n * z) + z * bit (held n) =
    count_run (λ x. held (x / 2 ^ top)) (held n) (n * z) z
    (λ x low high. ap held (div-eq_of_lt-le {k = n} z low (omega (arith, high, add-mul n 1 z)))) in
    ap (count_below (λ x. held (x / 2 ^ top))) long ∙ omega (arith, run, before, add-mul (count_below held n) (bit (held n)) z, mul_comm z (bit (held n)))

-- What a tenant holds

module _ (top superblocks : ℕ) (h : buddies.Holding) (long : length h.slots ≡ superblocks) (large : length h.taken ≡ superblocks * 2 ^ top)
    (sound : IsSound top (buddies.is_held h) (buddies.taken_of h)) where
  pub held_within : (u : ℕ) → buddies.is_held h u ≡ true → u < superblocks
  held_within u held = ⊎_elim
      (λ (less : u < length h.slots). let e = long in omega arith)
      (λ past. absurd (false≢true (sym (ap is_some (get_or_past h.slots u None past)) ∙ held)))
      (cases_lt u (length h.slots))

  pub orders_below : (f k : ℕ) → get_or h.taken f None ≡ Some k → k < top + 1
  orders_below f k e = let le : k ≤ top = (sound.placed f k e).0.0 in omega arith

  -- frame x lies in a held slot
  abbrev inside : ℕ → Bool
  inside x = buddies.is_held h (x / 2 ^ top)

  -- a taken block of order k lies in a held slot, so the count of frames in held slots rises by 2 ^ k over the block
  count_block : (f k : ℕ) → get_or h.taken f None ≡ Some k → count_below inside (f + 2 ^ k) ≡ count_below inside f + 2 ^ k
  count_block f k e =
      let placed = sound.placed f k e in
      let run = count_run inside true f (2 ^ k) (λ x low high.
      ap (buddies.is_held h) (same_slot top k x f placed.0.0 (number_of_frame f k x placed.0.1 (low, high))) ∙ placed.1) in
      omega (arith, run, mul-one (2 ^ k))

  -- if all taken blocks that begin below n end at or below e, together they have at most as many frames as there are
  -- frames below e in held slots
  sizes_within : (n e : ℕ) → n ≤ length h.taken → ((f k : ℕ) → f < n → get_or h.taken f None ≡ Some k → f + 2 ^ k ≤ e)
      → sum_by size (take n h.taken) ≤ count_below inside e
  sizes_within zero e le ends = omega arith
  sizes_within (suc j) e le ends = go (get_or h.taken j None) refl (λ d. sizes_within j d (omega arith))
    where
      more : sum_by size (take (suc j) h.taken) ≡ sum_by size (take j h.taken) + size (get_or h.taken j None)
      more = ap (λ n. sum_by size (take n h.taken)) (sym (add-one j)) ∙ sum_by_more size h.taken j None (omega arith)

      -- if a taken block begins at frame j, every taken block that begins below j ends at or below j
      before : (k f i : ℕ) → get_or h.taken j None ≡ Some k → f < j → get_or h.taken f None ≡ Some i → f + 2 ^ i ≤ j
      before k f i is less e = ⊎_elim
          (λ (past : j < f + 2 ^ i). let one : f ≡ j = sound.apart f i j k j e is (omega arith, past) (has_first (block j k)) in absurd (omega arith))
          (λ within. within)
          (cases_lt j (f + 2 ^ i))

      go : (o : Option ℕ) → get_or h.taken j None ≡ o
          → ((d : ℕ) → ((f k : ℕ) → f < j → get_or h.taken f None ≡ Some k → f + 2 ^ k ≤ d) → sum_by size (take j h.taken) ≤ count_below inside d)
          → sum_by size (take (suc j) h.taken) ≤ count_below inside e
      go None is rest =
          let none : size (get_or h.taken j None) ≡ 0 = ap size is in
          let fewer : sum_by size (take j h.taken) ≤ count_below inside e = rest e (λ f k less. ends f k (omega arith)) in
          omega (arith, more)
      go (Some k) is rest =
          let this : size (get_or h.taken j None) ≡ 2 ^ k = ap size is in
          let fewer : sum_by size (take j h.taken) ≤ count_below inside j = rest j (λ f i less. before k f i is less) in
          let block : count_below inside (j + 2 ^ k) ≡ count_below inside j + 2 ^ k = count_block j k is in
          let rise : count_below inside (j + 2 ^ k) ≤ count_below inside e = count_rise inside (j + 2 ^ k) e (ends j k (omega arith) is) in
          omega (arith, more)

  -- a taken block ends at or below `superblocks * 2 ^ top`, the number of machine frames
  ends_within : (f k : ℕ) → get_or h.taken f None ≡ Some k → f + 2 ^ k ≤ superblocks * 2 ^ top
  ends_within f k e =
      let placed = sound.placed f k e in
      let z : ℕ = 2 ^ top in
      let slot : f / z < superblocks = held_within (f / z) placed.1 in
      let last : ℕ = f + (2 ^ k - 1) in
      let some : 0 < 2 ^ k = pow_pos k in
      let same : last / z ≡ f / z = same_slot top k last f placed.0.0 (number_of_frame f k last placed.0.1 (omega arith, omega arith)) in
      let less : last < superblocks * z = (div-lt_iff_lt-mul (pow_pos top)).0 (subst (λ u. u < superblocks) (sym same) slot) in
      omega arith

  pub frames_within : (n : ℕ) → n ≤ top + 1 → frames_below h n ≤ buddies.held_slots h * 2 ^ top
  frames_within n le =
      let sizes : sum_by size h.taken ≡ frames_below h (top + 1) = sizes_by_order h.taken (top + 1) orders_below in
      let whole : sum_by size (take (length h.taken) h.taken) ≡ sum_by size h.taken = ap (sum_by size) (take-length h.taken) in
      let within : sum_by size (take (length h.taken) h.taken) ≤ count_below inside (superblocks * 2 ^ top) =
      sizes_within (length h.taken) (superblocks * 2 ^ top) (omega arith) (λ f k less. ends_within f k) in
      let slots : count_below inside (superblocks * 2 ^ top) ≡ count_below (buddies.is_held h) superblocks * 2 ^ top =
      count_slots top (buddies.is_held h) superblocks in
      let held : count_below (buddies.is_held h) superblocks ≡ buddies.held_slots h =
      count_table h.slots superblocks (omega arith)
      ∙ ap (λ k. count_by is_some (take k h.slots)) (sym long) ∙ ap (count_by is_some) (take-length h.slots) in
      let product : count_below (buddies.is_held h) superblocks * 2 ^ top ≡ buddies.held_slots h * 2 ^ top = ap (λ k. k * 2 ^ top) held in
      let rise : frames_below h n ≤ frames_below h (top + 1) = frames_rise (λ k. buddies.taken_block_count k h) n (top + 1) le in
      omega arith

pub figures_fit : FiguresFit
figures_fit b t w tenant = record {
  held =
      let fewer = count_by-le-length is_some h.slots in
      let long = w.sizes.slots t tenant in
      let product = mul-le (buddies.held_slots h) (2 ^ b.top) b.superblocks (2 ^ b.top) (omega arith) (omega arith) in
      omega (arith, all);
  free = λ k.
      let fewer = count_le (λ f. is_free b.top (buddies.is_held h) (buddies.taken_of h) (block f k)) (b.superblocks * 2 ^ b.top) in
      omega (arith, all);
  taken = λ k.
      let fewer = count_by-le-length (buddies.has_order k) h.taken in
      let large = w.sizes.taken t tenant in
      omega (arith, all);
  frames = frames_within b.top b.superblocks h (w.sizes.slots t tenant) (w.sizes.taken t tenant) (w.sound t tenant);
}
  where
    h : buddies.Holding
    h = buddies.holding_of t b

    all : b.superblocks * 2 ^ b.top ≤ WIDE_FRAMES
    all = w.sizes.frames
