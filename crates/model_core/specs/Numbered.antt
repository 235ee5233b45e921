-- Aligned blocks by number: block q of order k has the frames x with x / 2 ^ k equal to q. Its halves are the blocks 2 * q and
-- 2 * q + 1 of order k - 1. `ok` is any test of frames. The free blocks are the blocks that are open under the test
-- `is_available`.
use Rattle.std.specs.Prelude.{◌≡◌, ◌⊎◌, ℕ, zero, suc, ◌+◌, ◌*◌, ◌/◌, ◌≤◌, Bool, true, false, ◌&&◌}

-- the number of the block of order k that has frame x
abbrev pub number_at : ℕ → ℕ → ℕ
number_at zero x = x
number_at (suc k) x = number_at k x / 2

-- every frame of block q of order k passes the test
abbrev pub is_clear : (ℕ → Bool) → ℕ → ℕ → Bool
is_clear ok zero q = ok q
is_clear ok (suc k) q = is_clear ok k (2 * q) && is_clear ok k (2 * q + 1)

-- Block q of order k is clear and no larger than a slot. It is a whole slot, or the block of the next order around it is not
-- clear.
abbrev pub IsOpen : (ℕ → Bool) → ℕ → ℕ → ℕ → Type 0
IsOpen ok top k q = (k ≤ top) × (is_clear ok k q ≡ true) × ((k ≡ top) ⊎ (is_clear ok (suc k) (q / 2) ≡ false))
