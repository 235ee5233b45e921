-- The bytes of a tenant: place p lies in slot p / unit, at offset p % unit of the superblock there.
use Rattle.std.specs.Prelude.{ℕ, ◌+◌, ◌/◌, ◌%◌, Bool, ◌&&◌, nat_lt, nat_le, if◌then◌else◌, List, ◌++◌, Option, Some, None, option_map, length, take, drop, slice_index, slice_range, slice_set}
use Rattle.space_core.specs.Content.{Content, bank, superblock_at}

-- the bytes of slot u of tenant t, if t holds the slot
abbrev pub slot_bytes : Content → ℕ → ℕ → Option (List ℕ)
slot_bytes s t u = option_map (bank s.banks) (superblock_at s.slots t u)

-- the range of `len` bytes from `place` on is not empty and lies in one slot
abbrev pub is_in_slot : ℕ → ℕ → ℕ → Bool
is_in_slot unit place len = nat_lt 0 len && nat_le (place % unit + len) unit

-- the superblock in which the range of tenant t lies, if the range is not empty and lies in one slot that t holds
abbrev pub home_of : Content → ℕ → ℕ → ℕ → Option ℕ
home_of s t place len = if is_in_slot s.unit place len then superblock_at s.slots t (place / s.unit) else None

abbrev pub bytes_under : List (List ℕ) → ℕ → ℕ → Option ℕ → Option (List ℕ)
bytes_under banks from len None = None
bytes_under banks from len (Some m) = Some (slice_range (bank banks m) from (from + len))

-- the `len` bytes of tenant t from `place` on, if the range is not empty and lies in one slot that t holds
abbrev pub window_of : Content → ℕ → ℕ → ℕ → Option (List ℕ)
window_of s t place len = bytes_under s.banks (place % s.unit) len (home_of s t place len)

-- xs with w written from index i on; the part of w beyond the end of xs is cut off
abbrev pub put_within : List ℕ → ℕ → List ℕ → List ℕ
put_within xs i w = take (length xs) (take i xs ++ (w ++ drop (i + length w) xs))

abbrev pub banks_with : List (List ℕ) → ℕ → List ℕ → Option ℕ → List (List ℕ)
banks_with banks from w None = banks
banks_with banks from w (Some m) = slice_set banks m (put_within (bank banks m) from w)

-- s with w written from `place` of tenant t on; s itself if the range has no home (`home_of`)
abbrev pub with_window : Content → ℕ → ℕ → ℕ → List ℕ → Content
with_window s t place len w = record s { banks = banks_with s.banks (place % s.unit) w (home_of s t place len) }

abbrev pub byte_under : List (List ℕ) → ℕ → Option ℕ → Option ℕ
byte_under banks i None = None
byte_under banks i (Some m) = Some (slice_index (bank banks m) i)

-- the byte at a place of tenant t, if t holds the slot of the place
abbrev pub byte_at : Content → ℕ → ℕ → Option ℕ
byte_at s t place = byte_under s.banks (place % s.unit) (superblock_at s.slots t (place / s.unit))

abbrev pub banks_with_byte : List (List ℕ) → ℕ → ℕ → Option ℕ → List (List ℕ)
banks_with_byte banks i b None = banks
banks_with_byte banks i b (Some m) = slice_set banks m (slice_set (bank banks m) i b)

-- s with byte b at a place of tenant t; s itself if t does not hold the slot of the place
abbrev pub with_byte : Content → ℕ → ℕ → ℕ → Content
with_byte s t place b = record s { banks = banks_with_byte s.banks (place % s.unit) b (superblock_at s.slots t (place / s.unit)) }
