-- How a slab is cut into objects. Sizes, alignments and offsets are in bytes.
use Rattle.std.specs.Prelude.{◌≡◌, ℕ, ◌+◌, ◌-◌, ◌*◌, ◌/◌, ◌%◌, ◌^◌, ◌<◌, ◌≤◌, Bool, true, List, [], ◌∷◌, length, max, slice_index, if◌then◌else◌, nat_lt, nat_le, ◌&&◌, ◌==◌}
use Rattle.std.specs.List.{list_any}
use Rattle.model_core.specs.declared.limits.TheConstants.{FRAME_BYTES, RECORD_BYTES, RECORD_OFFSET, MAX_SIZE, MAX_PATTERN}

-- objects may have this size
abbrev pub is_size : ℕ → Bool
is_size size = nat_le 1 size && nat_le size MAX_SIZE

-- objects may have this alignment
abbrev pub is_alignment : ℕ → Bool
is_alignment align = list_any (λ n. n == align) (8 ∷ 16 ∷ 32 ∷ 64 ∷ 128 ∷ 256 ∷ [])

-- the layout of a cache's slabs
pub record Layout : Type 0 where
  -- bytes from the beginning of one object to the beginning of the next
  pub chunk : ℕ
  -- a slab has 2 ^ order frames
  pub order : ℕ
  -- bytes of a slab that its objects and its colour offset may use
  pub room : ℕ
  -- the number of objects of a slab
  pub count : ℕ
  -- the number of colour offsets
  pub colours : ℕ

-- the size rounded up to a multiple of the alignment, and at least 16
abbrev pub chunk_of : ℕ → ℕ → ℕ
chunk_of size align = max 16 ((size + align - 1) / align * align)

-- Objects are small if their chunk is below 512 bytes. Their slab has one frame, and the frame's last RECORD_BYTES bytes are
-- reserved for the control record.
abbrev pub is_small : ℕ → Bool
is_small chunk = nat_lt chunk 512

-- the number of bytes in 2 ^ order frames
abbrev pub bytes_of_order : ℕ → ℕ
bytes_of_order order = FRAME_BYTES * 2 ^ order

-- chunks leave at most an eighth of a slab of this order unused
abbrev pub is_thrifty : ℕ → ℕ → Bool
is_thrifty chunk order = nat_le (bytes_of_order order % chunk) (bytes_of_order order / 8)

-- the order of a slab: 0 for small objects, else the least order that is thrifty (order 3 always is)
abbrev pub slab_order : ℕ → ℕ
slab_order chunk =
    if is_small chunk then 0
    else if is_thrifty chunk 0 then 0 else if is_thrifty chunk 1 then 1 else if is_thrifty chunk 2 then 2 else 3

-- the bytes of a slab that its objects and its colour offset may use
abbrev pub usable_bytes : ℕ → ℕ
usable_bytes chunk = if is_small chunk then RECORD_OFFSET else bytes_of_order (slab_order chunk)

-- the layout for objects of a size and an alignment
unfoldable pub layout_of : ℕ → ℕ → Layout
layout_of size align =
    let chunk = chunk_of size align in
    let room = usable_bytes chunk in
    let count = room / chunk in
    record { chunk = chunk; order = slab_order chunk; room = room; count = count; colours = (room - count * chunk) / align + 1 }

-- the colour offset of the slab that a cache makes after `made` other slabs
abbrev pub colour_offset : ℕ → ℕ → Layout → ℕ
colour_offset align made l = align * (made % l.colours)

-- the offset of object i in its slab
abbrev pub object_offset : Layout → ℕ → ℕ → ℕ
object_offset l colour i = colour + i * l.chunk

-- the first place of object i of the slab at this frame
abbrev pub object_place : Layout → ℕ → ℕ → ℕ → ℕ
object_place l frame colour i = FRAME_BYTES * frame + object_offset l colour i

-- the byte at this offset of a slab is one of the `size` bytes of an object
abbrev pub in_object : Layout → ℕ → ℕ → ℕ → Bool
in_object l size colour offset =
    nat_le colour offset && (nat_lt ((offset - colour) / l.chunk) l.count && nat_lt ((offset - colour) % l.chunk) size)

-- A slab with this colour offset has space for its 1 to 256 objects: they end within `room`, and `room` ends within the slab. In
-- a slab of small objects, `room` ends before the control record.
pub record IsFit (l : Layout) (colour : ℕ) : Type 0 where
  pub chunked : 16 ≤ l.chunk
  pub some : 0 < l.count
  pub few : l.count ≤ 256
  pub inside : colour + l.count * l.chunk ≤ l.room
  pub within : l.room ≤ bytes_of_order l.order
  pub small : is_small l.chunk ≡ true → (l.order ≡ 0) × (l.room + RECORD_BYTES ≤ FRAME_BYTES)

-- the layout suits objects of this size and alignment at each of its colour offsets
pub record IsLayout (size align : ℕ) (l : Layout) : Type 0 where
  pub sized : 0 < size
  pub chunked : size ≤ l.chunk
  pub aligned : (made i : ℕ) → object_offset l (colour_offset align made l) i % align ≡ 0
  pub colours : 0 < l.colours
  pub order : l.order ≤ 3
  pub fits : (made : ℕ) → IsFit l (colour_offset align made l)

-- for each allowed size and alignment, at each colour offset, objects are aligned, fit into their chunks and end within `room`
abbrev pub LayoutsFit : Type 0
LayoutsFit = (size align : ℕ) → is_size size ≡ true → is_alignment align ≡ true → IsLayout size align (layout_of size align)

-- a pattern has 1 to MAX_PATTERN bytes; a constructed object repeats it
abbrev pub is_pattern : List ℕ → Bool
is_pattern pattern = nat_le 1 (length pattern) && nat_le (length pattern) MAX_PATTERN

-- byte j of a constructed object
abbrev pub pattern_byte : List ℕ → ℕ → ℕ
pattern_byte pattern j = slice_index pattern (j % length pattern)
