-- A tenant's places end at or below 2 ^ 32, so their numbers fit in 32 bits.
use Rattle.std.proofs.Common.{◌≡◌, ℕ, ◌+◌, ◌*◌, ◌/◌, ◌≤◌, Option, Some, None, refl, length, arith}
use Rattle.std.specs.Prelude.{IsSome}
use Rattle.std.proofs.lemmas.Bool.{false≢true}
use Rattle.std.proofs.Math.Nat.{mul-le-mul_right, add-mul, div-add-mod}
use Rattle.model_core.specs.declared.limits.TheConstants.{FRAME_BYTES, WIDE_FRAMES}
use Rattle.space_core.specs.Content.{Content, IsSpace, slots_of, superblock_at}
use Rattle.space_core.specs.Windows.{home_of}
use Rattle.space_core.proofs.Mapping.{within_from_some}
use Rattle.space_core.proofs.InvariantKept.{tenant-lt}
use Rattle.space_core.proofs.OwnBytes.{home_is}

pub slot_end : {s : Content} → IsSpace s → (t u m : ℕ) → superblock_at s.slots t u ≡ Some m → (u + 1) * s.unit ≤ FRAME_BYTES * WIDE_FRAMES
slot_end {s} facts t u m under =
    let short = within_from_some (slots_of s.slots t) u m under in
    let within : u + 1 ≤ length s.owners = omega (arith, short, facts.rows t (tenant-lt s.slots t u m under)) in
    omega (arith, mul-le-mul_right s.unit within, facts.bytes)

pub home_end : {s : Content} → IsSpace s → (t place len m : ℕ) → home_of s t place len ≡ Some m → place + len ≤ FRAME_BYTES * WIDE_FRAMES
home_end {s} facts t place len m home =
    let at = home_is s t place len m home in
    let end = slot_end facts t (place / s.unit) m at.2 in
    omega (arith, at.1, end, div-add-mod place s.unit, add-mul (place / s.unit) 1 s.unit)

pub range_end : {s : Content} → IsSpace s → (t place len : ℕ) → IsSome (home_of s t place len) → place + len ≤ FRAME_BYTES * WIDE_FRAMES
range_end {s} facts t place len some = go (home_of s t place len) refl some
  where
    go : (o : Option ℕ) → home_of s t place len ≡ o → IsSome o → place + len ≤ FRAME_BYTES * WIDE_FRAMES
    go (Some m) is some = home_end facts t place len m is
    go None is none = absurd (false≢true none)
