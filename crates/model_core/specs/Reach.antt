-- Reach: which ranges of places a tenant may read and write.
use Rattle.std.specs.Prelude.{ℕ, ◌+◌, ◌*◌, ◌^◌, Bool, nat_le, nat_lt, ◌&&◌, ◌||◌}
use Rattle.std.specs.List.{list_any}
use Rattle.model_core.specs.declared.limits.TheConstants.{FRAME_BYTES}
use Rattle.model_core.specs.Blocks.{Block}
use Rattle.model_core.specs.Machine.{Cache, Machine}
use Rattle.model_core.specs.Slabs.{LiveObject, live_objects}

-- the `len` bytes from `place` on are among the `size` bytes from `begin` on
abbrev pub is_within : ℕ → ℕ → ℕ → ℕ → Bool
is_within place len begin size = nat_le begin place && nat_le (place + len) (begin + size)

-- the range lies inside the block
abbrev pub within_block : ℕ → ℕ → Block → Bool
within_block place len b = is_within place len (FRAME_BYTES * b.first) (FRAME_BYTES * 2 ^ b.order)

-- the range lies inside the bytes of the object
abbrev pub within_object : Cache → ℕ → ℕ → LiveObject → Bool
within_object c place len object = is_within place len object.place c.size

-- the range lies inside one live object of the cache
abbrev pub within_objects : ℕ → ℕ → Cache → Bool
within_objects place len c = list_any (within_object c place len) (live_objects c)

-- the range has at least one byte and lies inside one live page block or inside one live object
unfoldable pub in_reach : Machine → ℕ → ℕ → Bool
in_reach m place len =
    nat_lt 0 len && (list_any (within_block place len) m.blocks || list_any (within_objects place len) m.caches)
