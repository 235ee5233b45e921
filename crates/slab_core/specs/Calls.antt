-- Terms for the contracts of internal functions: filled ranges, constructed objects and empty slabs.
use Rattle.std.specs.Prelude.{◌≡◌, ◌≢◌, ℕ, ◌+◌, ◌/◌, ◌<◌, ◌==◌, ◌&&◌, Bool, true, false, Option, Some, None, List, length, slice_index}
use Rattle.model_core.specs.Layouts.{is_small, object_place, pattern_byte}
use Rattle.model_core.specs.Machine.{Cache}
use Rattle.model_core.specs.Slabs.{empty_blocks}
use Rattle.model_core.specs.CacheOperations.{frames_of}
use Rattle.space_core.specs.Content as spaces
use Rattle.space_core.specs.Laws.{IsSameFor, SpareStays}
use Rattle.space_core.specs.Windows.{byte_at, with_window}
use Rattle.slab_tables.specs.declared.cache.Cache as own
use Rattle.klist_core.specs.Places.{place_at, IsEmpty}
use Rattle.slab_tables.specs.Content.{Content, kept_at, head_of, layout_numbers}
use Rattle.slab_tables.specs.Changes.{made_more}
use Rattle.machine_changes.specs.Shows.{machine_frame_of, is_inside, record_byte, IsSlab}

-- the `len` bytes of tenant t that begin at `place` are the pattern, repeated; the rest of the memory is as before
pub record IsFilled (r r' : spaces.Content) (t place len : ℕ) (pattern : List ℕ) : Type 0 where
  pub bytes : List ℕ
  pub long : length bytes ≡ len
  pub constructed : (j : ℕ) → j < len → slice_index bytes j ≡ pattern_byte pattern j
  pub filled : r' ≡ with_window r t place len bytes

-- The first n objects of the block at frame `first` of tenant t are constructed, as in a slab of the cache with this colour
-- offset. The control record is clear, if it is in the frame. The bytes of t outside the block, all that other tenants have, and
-- the superblocks without an owner are as before.
pub record IsConstructed (r r' : spaces.Content) (t : ℕ) (cache : own.Cache) (first colour n : ℕ) : Type 0 where
  pub space : r' ≡ record r { banks = r'.banks }
  pub others : (u : ℕ) → u ≢ t → IsSameFor u r r'
  pub spare : SpareStays r r'
  pub clear : is_small (layout_numbers cache).chunk ≡ true → (j : ℕ) → j < 32 → record_byte r' t first j ≡ 0
  pub objects : (i j : ℕ) → i < n → j < cache.layout.size
      → byte_at r' t (object_place (layout_numbers cache) first colour i + j) ≡ Some (pattern_byte cache.pattern j)
  pub bytes : (place : ℕ) → is_inside place first cache ≡ false → byte_at r' t place ≡ byte_at r t place

-- the list entry is in a list of a cache whose index satisfies `these`
abbrev pub is_of_these : (ℕ → Bool) → Option (ℕ × ℕ) → Bool
is_of_these these None = false
is_of_these these (Some p) = these (p.0 / 3)

-- a slab of a cache whose index satisfies `these` begins at the machine frame, and no object of the slab is live
abbrev pub is_idle : (ℕ → Bool) → Content → Option ℕ → Bool
is_idle these s None = false
is_idle these s (Some n) = is_of_these these (place_at s.lists.places n) && (kept_at s.kept n).live == 0

-- an empty slab of a cache whose index satisfies `these` begins at frame f of tenant t
abbrev pub idle_at : (ℕ → Bool) → spaces.Content → Content → ℕ → ℕ → Bool
idle_at these r s t f = is_idle these s (machine_frame_of s.top r.slots t f)

-- the number of frames in the cache's empty slabs, or 0 if there is no cache
abbrev pub empty_frames_in : Option Cache → ℕ
empty_frames_in None = 0
empty_frames_in (Some c) = frames_of (empty_blocks c)

-- cache c of tenant t has neither a full nor a partial slab, so none of its objects is live
abbrev pub IsUnused : Content → ℕ → ℕ → Type 0
IsUnused s t c = IsEmpty s.lists.places (head_of t c 0) × IsEmpty s.lists.places (head_of t c 1)

-- an empty slab of cache c of tenant t begins at frame `first`, whose machine frame is n; `before` is the cache as it was before
-- it made this slab
pub record IsNew (r : spaces.Content) (s : Content) (t c : ℕ) (before : own.Cache) (first n : ℕ) : Type 0 where
  pub slab : IsSlab r s t c first n (made_more before)
  pub empty : (kept_at s.kept n).live ≡ 0
