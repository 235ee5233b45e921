-- The control records of slabs, which are stored in the slabs' own frames.
use Rattle.std.specs.Prelude.{◌≡◌, ℕ, ◌+◌, ◌*◌, ◌/◌, ◌%◌, ◌^◌, ◌<◌, true, false, Some, slice_index, slice_index_or}
use Rattle.model_core.specs.declared.limits.TheConstants.{FRAME_BYTES, RECORD_OFFSET}
use Rattle.model_core.specs.Layouts.{is_small}
use Rattle.model_core.specs.Machine.{Slab, Cache, Machine, layout}
use Rattle.model_core.specs.Slabs.{cache_of, slab_of}
use Rattle.machine_changes.specs.Records.{is_set}
use Rattle.kernel_core.specs.Content.{KernelContent, superblock_at, superblock_bytes}
use Rattle.kernel_core.specs.Shows.{ShowsMachine}

-- The last 32 bytes of frame f of tenant t are the live flags of the objects of slab y: flag 8i + j is bit j of byte i. All bits
-- past the flags are 0. The bytes are in the superblock of the frame's slot.
pub record HasRecord (k : KernelContent) (t f : ℕ) (y : Slab) : Type 0 where
  pub superblock : ℕ
  pub under : superblock_at k t (f / 2 ^ k.order) ≡ Some superblock
  pub bits : (i j : ℕ) → i < 32 → j < 8
      → is_set (slice_index (superblock_bytes k superblock) (FRAME_BYTES * (f % 2 ^ k.order) + RECORD_OFFSET + i)) j
      ≡ slice_index_or y.live (8 * i + j) false

-- the control record of every slab of small objects is the bitmap of its live objects
abbrev pub RecordsStand : KernelContent → Type 0
RecordsStand k = (t c f : ℕ) (m : Machine) (x : Cache) (y : Slab) → ShowsMachine k t m
    → cache_of m c ≡ Some x → slab_of x f ≡ Some y → is_small (layout x).chunk ≡ true → HasRecord k t f y
