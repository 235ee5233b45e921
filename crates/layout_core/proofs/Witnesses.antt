-- One instance of each law of layouts: numbers that meet the law's premises, and what the law says of them.
use Rattle.std.proofs.Common.{◌≡◌, ℕ, ◌≤◌, refl, arith}
use Rattle.model_core.specs.Layouts.{LayoutsFit, IsLayout, layout_of}
use Rattle.layout_core.specs.Cut.{cut}
use Rattle.layout_core.specs.Objects.{Holds}
use Rattle.layout_core.specs.Laws.{IsLeastOrder, EverySizeHasAnOrder, OffsetsApart, FewObjects}

LayoutsFit-met : LayoutsFit → IsLayout 200 8 (layout_of 200 8)
LayoutsFit-met law = law 200 8 refl refl

-- for chunks of 3000 bytes, a slab of four frames leaves at most an eighth unused, and slabs of one or two frames leave more
EverySizeHasAnOrder-met : EverySizeHasAnOrder → IsLeastOrder 3000 2
unfolding layout_of
EverySizeHasAnOrder-met law = law 3000 8 refl refl

-- byte 203 is the last byte of the second object
it_holds : Holds (cut 100 8) 0 203 1 1
unfolding layout_of
it_holds = record { object = omega arith; some = omega arith; from = omega arith; to = omega arith }

OffsetsApart-met : OffsetsApart → (i : ℕ) → Holds (cut 100 8) 0 203 1 i → i ≡ 1
OffsetsApart-met law i holds = law 100 8 0 203 i 1 refl refl holds it_holds

FewObjects-met : FewObjects → ((layout_of 16 8).count ≤ 254) × ((layout_of 3000 8).count ≤ 16)
unfolding layout_of
FewObjects-met law = ((law 16 8 refl refl).0 refl, (law 3000 8 refl refl).1 refl)
