-- A tenant has a free block of order k or more if and only if its number of free blocks is above 0 for one of these orders.
use Rattle.std.proofs.Common.{◌≡◌, ℕ, zero, suc, ◌+◌, ◌*◌, ◌/◌, ◌^◌, ◌<◌, ◌≤◌, Bool, true, false, length, refl, ap, ◌∙◌, ⊎_elim, arith}
use Rattle.std.proofs.Math.Nat.{div-lt_iff_lt-mul}
use Rattle.std.proofs.lemmas.Bool.{cases_lt}
use Rattle.std.proofs.lemmas.Nat.{pow_pos}
use Rattle.model_core.specs.Blocks.{block}
use Rattle.model_core.specs.Choice.{is_free, count_below}
use Rattle.model_core.proofs.BlockChoice.{free_is_tested}
use Rattle.model_core.proofs.CountBelow.{bit}
use Rattle.model_core.proofs.Lists.{some_of}
use Rattle.buddy_core.specs.Content as buddies
use Rattle.buddy_core.proofs.FreeBlockCounts.{count_some}
use Rattle.machine_changes.proofs.SteadyParts.{within}
use Rattle.slab_core.specs.Fitting.{HasFreeBlock}

-- if p is true for more than 0 numbers below n, it is true for some number
some_counted : (p : ℕ → Bool) (n : ℕ) → 0 < count_below p n → (f : ℕ) × (p f ≡ true)
some_counted p zero some = absurd (omega arith)
some_counted p (suc n) some = go (p n) refl some (some_counted p n)
  where
    go : (v : Bool) → p n ≡ v → 0 < count_below p n + bit v → (0 < count_below p n → (f : ℕ) × (p f ≡ true)) → (f : ℕ) × (p f ≡ true)
    go true is some rest = (n, is)
    go false is some rest = rest (omega arith)

-- the number of a held slot is below the number of superblocks
pub held_within : (b : buddies.Content) (t u : ℕ) → buddies.IsSized b → t < length b.tenants
    → buddies.is_held (buddies.holding_of t b) u ≡ true → u < b.superblocks
held_within b t u sized lt held =
    let is = some_of (buddies.superblock_at (buddies.holding_of t b) u) held in
    let less : u < length (buddies.holding_of t b).slots = within (buddies.holding_of t b).slots u is.0 is.1 in
    omega (arith, less, sized.slots t lt)

module _ (b : buddies.Content) (t k : ℕ) where
  abbrev test : ℕ → ℕ → Bool
  test j f = is_free b.top (buddies.is_held (buddies.holding_of t b)) (buddies.taken_of (buddies.holding_of t b)) (block f j)

  pub free_of_count : (j : ℕ) → k ≤ j → 0 < buddies.free_block_count b.top b.superblocks j (buddies.holding_of t b) → HasFreeBlock b t k
  free_of_count j enough some =
      let is = some_counted (test j) (b.superblocks * 2 ^ b.top) some in
      record {
        found = block is.0 j;
        free = (free_is_tested b.top (buddies.is_held (buddies.holding_of t b)) (buddies.taken_of (buddies.holding_of t b)) (block is.0 j)).0 is.1;
        enough = enough;
      }

  pub count_of_free : buddies.IsSized b → t < length b.tenants → (h : HasFreeBlock b t k)
      → 0 < buddies.free_block_count b.top b.superblocks h.found.order (buddies.holding_of t b)
  count_of_free sized lt h =
      let less : h.found.first < b.superblocks * 2 ^ b.top =
      (div-lt_iff_lt-mul (pow_pos b.top)).0 (held_within b t (h.found.first / 2 ^ b.top) sized lt h.free.1) in
      count_some (test h.found.order) (b.superblocks * 2 ^ b.top) h.found.first less
      ((free_is_tested b.top (buddies.is_held (buddies.holding_of t b)) (buddies.taken_of (buddies.holding_of t b)) h.found).1 h.free)

  -- the tenant has no free block of any order from k to `order` - 1
  abbrev pub IsNoneTo : ℕ → Type 0
  IsNoneTo order = (j : ℕ) → k ≤ j → j < order → buddies.free_block_count b.top b.superblocks j (buddies.holding_of t b) ≡ 0

  pub none_to_next : (order : ℕ) → IsNoneTo order → buddies.free_block_count b.top b.superblocks order (buddies.holding_of t b) ≡ 0 → IsNoneTo (order + 1)
  none_to_next order none here j from to = ⊎_elim (λ less. none j from less)
      (λ past. let same : j ≡ order = omega arith in
      ap (λ i. buddies.free_block_count b.top b.superblocks i (buddies.holding_of t b)) same ∙ here) (cases_lt j order)

  pub none_free : buddies.IsSized b → t < length b.tenants → (end : ℕ) → b.top < end → IsNoneTo end → HasFreeBlock b t k → ⊥
  none_free sized lt end all none h =
      let some = count_of_free sized lt h in
      let order : h.found.order ≤ b.top = h.free.0.0 in
      let zero_there = none h.found.order h.enough (omega arith) in
      omega arith
