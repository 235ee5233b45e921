-- How a tenant's counts of free and taken blocks of each order change when a block is taken or released.
use Rattle.std.specs.Prelude.{◌≡◌, ◌⊎◌, ℕ, ◌+◌, ◌^◌, ◌<◌, ◌≤◌, length, slice_index}
use Rattle.buddy_core.specs.Stored.{StoredTenant}

-- each count of free or taken blocks can rise by 1 without an overflow
abbrev pub CanCountMore : StoredTenant → Type 0
CanCountMore tenant = (i : ℕ) → (slice_index tenant.free i + 1 < 2 ^ 32) × (slice_index tenant.taken i + 1 < 2 ^ 32)

-- `whole` has the counts before a block of order k is taken out of a free block of order j, and `part` has the counts afterwards.
-- For each order from k to j - 1, one more block is then free: the half that was split off.
pub record IsTakenOut (k j : ℕ) (whole part : StoredTenant) : Type 0 where
  pub slots : part.slots ≡ whole.slots
  pub free_size : length part.free ≡ length whole.free
  pub taken_size : length part.taken ≡ length whole.taken
  pub split : slice_index part.free j + 1 ≡ slice_index whole.free j
  pub halves : (i : ℕ) → k ≤ i → i < j → slice_index part.free i ≡ slice_index whole.free i + 1
  pub others : (i : ℕ) → (i < k) ⊎ (j < i) → slice_index part.free i ≡ slice_index whole.free i
  pub taken : slice_index part.taken k ≡ slice_index whole.taken k + 1
  pub rest : (i : ℕ) → (i ≡ k → ⊥) → slice_index part.taken i ≡ slice_index whole.taken i
