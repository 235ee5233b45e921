-- A range inside an aligned block of frames lies in one slot.
use Rattle.std.proofs.Common.{◌≡◌, ℕ, ◌+◌, ◌-◌, ◌*◌, ◌/◌, ◌%◌, ◌^◌, ◌<◌, ◌≤◌, true, None, IsSome, sym, subst, arith}
use Rattle.std.specs.Prelude.{nat_lt, nat_le, if◌then◌else◌}
use Rattle.std.proofs.lemmas.Bool.{lt-ltb, le-leb, and_from}
use Rattle.std.proofs.lemmas.Nat.{pow_pos, div-mul-add, mod-mul-add}
use Rattle.std.proofs.Math.Nat.{lt-div-mul-add, div-mul-le_self}
use Rattle.model_core.proofs.BlocksByNumber.{number_of_frame, same_slot}
use Rattle.model_core.specs.declared.limits.TheConstants.{FRAME_BYTES}
use Rattle.space_core.specs.Content.{Content, superblock_at}
use Rattle.space_core.specs.Windows.{is_in_slot, home_of}

-- if a range is not empty and lies within the `unit` bytes of slot u, it begins in slot u and does not run over the slot's end
within_slot : (unit u place len : ℕ) → u * unit ≤ place → place + len ≤ u * unit + unit → 0 < len → (place / unit ≡ u) × (place % unit + len ≤ unit)
within_slot unit u place len low high some =
    let rest : ℕ = place - u * unit in
    let small : rest < unit = omega arith in
    let whole : u * unit + rest ≡ place = omega arith in
    let slot : place / unit ≡ u = subst (λ p. p / unit ≡ u) whole (div-mul-add u unit rest small) in
    let at : place % unit ≡ rest = subst (λ p. p % unit ≡ rest) whole (mod-mul-add u unit rest small) in
    (slot, omega arith)

-- an aligned block ends in the slot where it begins
block_end : (top first order : ℕ) → order ≤ top → first % 2 ^ order ≡ 0 → first + 2 ^ order ≤ first / 2 ^ top * 2 ^ top + 2 ^ top
block_end top first order small aligned =
    let last : ℕ = first + 2 ^ order - 1 in
    let some : 0 < 2 ^ order = pow_pos order in
    let same : last / 2 ^ top ≡ first / 2 ^ top = same_slot top order last first small (number_of_frame first order last aligned (omega arith, omega arith)) in
    let below : last < last / 2 ^ top * 2 ^ top + 2 ^ top = lt-div-mul-add (pow_pos top) in
    let below' : last < first / 2 ^ top * 2 ^ top + 2 ^ top = subst (λ n. last < n * 2 ^ top + 2 ^ top) same below in
    omega arith

-- if a range is not empty and lies in the block of 2 ^ order frames from frame first on, and the tenant holds the slot of that
-- frame, the range lies in one slot that the tenant holds
pub range_held : (s : Content) (t top first order place len : ℕ) → s.unit ≡ FRAME_BYTES * 2 ^ top → order ≤ top → first % 2 ^ order ≡ 0 → IsSome (superblock_at s.slots t (first / 2 ^ top))
    → 0 < len → FRAME_BYTES * first ≤ place → place + len ≤ FRAME_BYTES * (first + 2 ^ order) → IsSome (home_of s t place len)
range_held s t top first order place len unit small aligned held some begins ends =
    let frames : ℕ = 2 ^ top in
    let u : ℕ = first / frames in
    let low : u * frames ≤ first = div-mul-le_self first frames in
    let high : first + 2 ^ order ≤ u * frames + frames = block_end top first order small aligned in
    let one = within_slot (FRAME_BYTES * frames) u place len (omega arith) (omega arith) some in
    let fits : place % s.unit + len ≤ s.unit = subst (λ n. place % n + len ≤ n) (sym unit) one.1 in
    let slot : place / s.unit ≡ u = subst (λ n. place / n ≡ u) (sym unit) one.0 in
    let inside : is_in_slot s.unit place len ≡ true =
    and_from (nat_lt 0 len) (nat_le (place % s.unit + len) s.unit) (lt-ltb 0 len some) (le-leb (place % s.unit + len) s.unit fits) in
    subst (λ b. IsSome (if b then superblock_at s.slots t (place / s.unit) else None)) (sym inside)
    (subst (λ n. IsSome (superblock_at s.slots t n)) (sym slot) held)
