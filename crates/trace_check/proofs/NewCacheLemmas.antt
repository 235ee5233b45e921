-- A layout whose numbers are within the bounds of layout_wrong can only have too many objects or colours.
use Rattle.std.proofs.Common.{◌≡◌, ℕ, ◌*◌, ◌%◌, ◌^◌, ◌≤◌, refl}
use Rattle.std.proofs.lemmas.Bool.{eq-eqb, le-leb, ne_eqb}
use Rattle.model_core.specs.declared.limits.TheConstants.{FRAME_BYTES}
use Rattle.trace_check.specs.NewCache.{layout_wrong, over_room}

pub within_bounds : (order size align chunk q n colours : ℕ) → (align ≡ 0 → ⊥) → size ≤ chunk → chunk % align ≡ 0 → q ≤ order → 1 ≤ n → 1 ≤ colours
    → over_room (FRAME_BYTES * 2 ^ q) align chunk n colours ≡ layout_wrong order size align chunk q n colours
unfolding layout_wrong
within_bounds order size align chunk q n colours some sized steps fits objects coloured =
    rw (ne_eqb align 0 some, le-leb size chunk sized, eq-eqb (chunk % align) 0 steps, le-leb q order fits, le-leb 1 n objects, le-leb 1 colours coloured) refl
