-- The kind of a frame of a private machine.
use Rattle.std.specs.Prelude.{◌≡◌, ℕ, ◌+◌, ◌/◌, ◌^◌, ◌<◌, ◌≤◌, Bool, true, false, Some}
use Rattle.model_core.specs.Blocks.{HasFrame, IsTaken, Taken}
use Rattle.model_core.specs.Machine.{Slab, Cache, Machine, holds, order_in, taken_in, slab_block}
use Rattle.model_core.specs.Slabs.{cache_of, slab_of, is_full, is_partial, is_empty}
use Rattle.kernel_core.specs.declared.frames.FrameKind.{FrameKind}

-- frame f of machine m lies in a slab that passes the test
pub record IsInSlab (m : Machine) (f : ℕ) (test : Slab → Bool) : Type 0 where
  pub number : ℕ
  pub cache : Cache
  pub slab : Slab
  pub cached : cache_of m number ≡ Some cache
  pub standing : slab_of cache slab.first ≡ Some slab
  pub here : HasFrame (slab_block cache slab) f
  pub passes : test slab ≡ true

-- frame f of machine m has this kind; a slot has 2 ^ order frames
abbrev pub IsFrame : ℕ → Machine → ℕ → FrameKind → Type 0
IsFrame order m f FrameKind.NotHeld = holds m (f / 2 ^ order) ≡ false
IsFrame order m f FrameKind.Free = (holds m (f / 2 ^ order) ≡ true) × (IsTaken (taken_in m) f → ⊥)
IsFrame order m f FrameKind.Page = IsTaken (order_in m.blocks) f
IsFrame order m f FrameKind.Full = IsInSlab m f is_full
IsFrame order m f FrameKind.Partial = IsInSlab m f is_partial
IsFrame order m f FrameKind.Empty = IsInSlab m f is_empty

-- no taken block begins before frame x and contains x
abbrev pub AreEndedBefore : Taken → ℕ → Type 0
AreEndedBefore taken x = (f k : ℕ) → taken f ≡ Some k → f < x → f + 2 ^ k ≤ x
