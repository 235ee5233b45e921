-- The laws of layouts, over all accepted sizes and alignments.
use Rattle.std.specs.Prelude.{◌≡◌, ℕ, ◌<◌, ◌≤◌, true, false}
use Rattle.model_core.specs.Layouts.{layout_of, is_size, is_alignment, is_small, is_thrifty}
use Rattle.layout_core.specs.Cut.{cut}
use Rattle.layout_core.specs.Objects.{Holds}

-- The order of a slab is at most 3. It is 0 for small chunks, else the least order that leaves at most an eighth of the slab
-- unused.
pub record IsLeastOrder (chunk order : ℕ) : Type 0 where
  pub few : order ≤ 3
  pub small : is_small chunk ≡ true → order ≡ 0
  pub thrifty : is_small chunk ≡ false → is_thrifty chunk order ≡ true
  pub least : is_small chunk ≡ false → (q : ℕ) → q < order → is_thrifty chunk q ≡ false

abbrev pub EverySizeHasAnOrder : Type 0
EverySizeHasAnOrder = (size align : ℕ) → is_size size ≡ true → is_alignment align ≡ true
    → IsLeastOrder (layout_of size align).chunk (layout_of size align).order

-- two objects of a slab that contain the same byte are the same
abbrev pub OffsetsApart : Type 0
OffsetsApart = (size align colour offset i j : ℕ) → is_size size ≡ true → is_alignment align ≡ true
    → Holds (cut size align) colour offset 1 i → Holds (cut size align) colour offset 1 j → i ≡ j

abbrev pub FewObjects : Type 0
FewObjects = (size align : ℕ) → is_size size ≡ true → is_alignment align ≡ true
    → (is_small (layout_of size align).chunk ≡ true → (layout_of size align).count ≤ 254)
    × (is_small (layout_of size align).chunk ≡ false → (layout_of size align).count ≤ 16)
