-- The figures that a report gives about a private machine. Slots have 2 ^ order frames.
use Rattle.std.specs.Prelude.{ℕ, zero, suc, ◌+◌, ◌-◌, ◌*◌, ◌/◌, ◌^◌, ◌==◌, if◌then◌else◌, List, [], ◌∷◌, ◌++◌, length, map, filter, Option, Some, None}
use Rattle.model_core.specs.declared.report.OrderRow.{OrderRow}
use Rattle.model_core.specs.declared.report.CacheRow.{CacheRow}
use Rattle.model_core.specs.Choice.{free_blocks}
use Rattle.model_core.specs.Machine.{Cache, Machine, beyond, holds, taken_blocks, taken_in}
use Rattle.model_core.specs.Slabs.{is_full, is_partial, is_empty, live_objects}
use Rattle.model_core.specs.CacheOperations.{frames_of}

-- the number of held frames, of taken frames, and of held frames that are not taken

abbrev pub frames_held : ℕ → Machine → ℕ
frames_held order m = length m.slots * 2 ^ order

abbrev pub frames_taken : Machine → ℕ
frames_taken m = frames_of (taken_blocks m)

abbrev pub frames_free : ℕ → Machine → ℕ
frames_free order m = frames_held order m - frames_taken m

-- the numbers of free and of taken blocks of order k

abbrev pub free_count : ℕ → Machine → ℕ → ℕ
free_count order m k = free_blocks order (holds m) (taken_in m) (beyond m.slots) k

abbrev pub taken_count : Machine → ℕ → ℕ
taken_count m k = length (filter (λ b. b.order == k) (taken_blocks m))

abbrev pub order_row : ℕ → Machine → ℕ → OrderRow
order_row order m k = record { free = free_count order m k; taken = taken_count m k }

-- the rows of the orders below n, by rising order
abbrev pub order_rows : ℕ → Machine → ℕ → List OrderRow
order_rows order m zero = []
order_rows order m (suc k) = order_rows order m k ++ (order_row order m k ∷ [])

-- the greatest number below n whose count is not 0, or None
abbrev pub greatest : (ℕ → ℕ) → ℕ → Option ℕ
greatest count zero = None
greatest count (suc k) = if count k == 0 then greatest count k else Some k

-- the greatest order of a free block, or None if no frame is free
abbrev pub greatest_free : ℕ → Machine → Option ℕ
greatest_free order m = if frames_free order m == 0 then None else greatest (free_count order m) (order + 1)

-- The share of the free frames that lies outside one free block of the greatest order, in thousandths, rounded up. It is 0 if no
-- frame is free. It measures fragmentation.
abbrev pub split_share : ℕ → Option ℕ → ℕ
split_share free None = 0
split_share free (Some k) = 1000 - 1000 * 2 ^ k / free

-- the row of a cache: the number of its slabs of each kind, and of its live objects
abbrev pub row_of_cache : Cache → CacheRow
row_of_cache c = record {
  cache = c.number;
  full = length (filter is_full c.slabs);
  partial = length (filter is_partial c.slabs);
  empty = length (filter is_empty c.slabs);
  live = length (live_objects c);
}

-- the rows of all caches, by rising number
abbrev pub rows_of_caches : Machine → List CacheRow
rows_of_caches m = map row_of_cache m.caches
