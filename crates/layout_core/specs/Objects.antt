use Rattle.std.specs.Prelude.{◌≡◌, ℕ, ◌+◌, ◌<◌, ◌≤◌}
use Rattle.model_core.specs.Layouts.{object_offset, colour_offset}
use Rattle.layout_core.specs.Cut.{Cut, numbers_of}

-- `colour` is a colour offset of slabs with this layout
abbrev pub IsColour : Cut → ℕ → Type 0
IsColour l colour = (made : ℕ) × (colour ≡ colour_offset l.align made (numbers_of l))

-- a slab with this layout and colour offset has an object i, which begins at byte `offset`
pub record Begins (l : Cut) (colour offset i : ℕ) : Type 0 where
  pub object : i < (numbers_of l).count
  pub begins : object_offset (numbers_of l) colour i ≡ offset

-- a slab with this layout and colour offset has an object i, which contains the `len` bytes from byte `offset` on; `len` is not 0
pub record Holds (l : Cut) (colour offset len i : ℕ) : Type 0 where
  pub object : i < (numbers_of l).count
  pub some : 0 < len
  pub from : object_offset (numbers_of l) colour i ≤ offset
  pub to : offset + len ≤ object_offset (numbers_of l) colour i + l.size

-- P is true of i, and of no other number
pub record IsOnly (P : ℕ → Type 0) (i : ℕ) : Type 0 where
  pub is : P i
  pub only : (j : ℕ) → P j → j ≡ i
