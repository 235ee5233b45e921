-- Computes the free block that serves a request, and the number of free blocks. `slots` is any number above all held slots; the
-- results do not depend on it.
use Rattle.std.specs.Prelude.{ℕ, zero, suc, ◌+◌, ◌*◌, ◌/◌, ◌%◌, ◌^◌, Bool, false, not, ◌&&◌, ◌||◌, ◌==◌, nat_lt, nat_le, if◌then◌else◌, Option, Some, None, is_some}
use Rattle.std.specs.Option.{option_and_then, option_map}
use Rattle.model_core.specs.Blocks.{Block, block, Taken}
use Rattle.model_core.specs.Numbered.{is_clear}

-- some number below n passes the test
abbrev pub is_any_below : (ℕ → Bool) → ℕ → Bool
is_any_below p zero = false
is_any_below p (suc n) = is_any_below p n || p n

-- The third argument is the number that was found below n, or None. If a number was found, it is the result. If none was, the
-- result is n if n passes the test, and None otherwise.
abbrev pub found_or : (ℕ → Bool) → ℕ → Option ℕ → Option ℕ
found_or p n (Some i) = Some i
found_or p n None = if p n then Some n else None

-- the least number below n that passes the test, or None
abbrev pub least : (ℕ → Bool) → ℕ → Option ℕ
least p zero = None
least p (suc n) = found_or p n (least p n)

-- the block of this order that begins at frame f has frame x; the order is None if no block begins at f
abbrev pub has_frame : ℕ → ℕ → Option ℕ → Bool
has_frame x f None = false
has_frame x f (Some order) = nat_le f x && nat_lt x (f + 2 ^ order)

-- the test for `IsTaken`: some taken block has frame x
abbrev pub is_taken : Taken → ℕ → Bool
is_taken taken x = is_any_below (λ f. has_frame x f (taken f)) (suc x)

-- the frame lies in a held slot and is not taken
abbrev pub is_available : ℕ → (ℕ → Bool) → Taken → ℕ → Bool
is_available top held taken x = held (x / 2 ^ top) && not (is_taken taken x)

-- The test for `IsFree`: the block is aligned and all its frames are available. It is a whole slot, or some frame of the block of
-- the next order around it is not available.
abbrev pub is_free : ℕ → (ℕ → Bool) → Taken → Block → Bool
is_free top held taken b = (nat_le b.order top && b.first % 2 ^ b.order == 0)
    && (is_clear (is_available top held taken) b.order (b.first / 2 ^ b.order)
    && (b.order == top || not (is_clear (is_available top held taken) (suc b.order) (b.first / 2 ^ suc b.order))))

-- the first frame of the first free block of order j, or None
abbrev pub first_free : ℕ → (ℕ → Bool) → Taken → ℕ → ℕ → Option ℕ
first_free top held taken slots j = least (λ f. is_free top held taken (block f j)) (slots * 2 ^ top)

-- the least order from k to `top` for which a block is free, or None
abbrev pub first_order : ℕ → (ℕ → Bool) → Taken → ℕ → ℕ → Option ℕ
first_order top held taken slots k = least (λ j. nat_le k j && is_some (first_free top held taken slots j)) (suc top)

-- the block that `IsChoice` describes, or None if no free block has order k or more
abbrev pub choose : ℕ → (ℕ → Bool) → Taken → ℕ → ℕ → Option Block
choose top held taken slots k =
    option_and_then (λ j. option_map (λ f. block f j) (first_free top held taken slots j)) (first_order top held taken slots k)

-- how many numbers below n pass the test
abbrev pub count_below : (ℕ → Bool) → ℕ → ℕ
count_below p zero = 0
count_below p (suc n) = count_below p n + (if p n then 1 else 0)

-- the number of free blocks of order k
abbrev pub free_blocks : ℕ → (ℕ → Bool) → Taken → ℕ → ℕ → ℕ
free_blocks top held taken slots k = count_below (λ f. is_free top held taken (block f k)) (slots * 2 ^ top)
