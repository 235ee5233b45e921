use Rattle.std.proofs.Common.{◌≡◌, ℕ, ◌-◌, ◌*◌, ◌%◌, ◌^◌, ◌<◌, ◌≤◌, min, length, ap, sym, ◌∙◌, arith, slice_range, List}
use Rattle.std.proofs.Math.Nat.{mul-le-mul_right}
use Rattle.std.proofs.Math.Pow.{pow_mono}
use Rattle.kernel_core.specs.declared.frames.FrameKind.{FrameKind}
use Rattle.frame_picture.specs.Rows.{cells_between, owned_cells}
use Rattle.frame_picture.proofs.RowLemmas.{owned}
use Rattle.frame_picture.proofs.drawing.cells_of.Goals as goal

-- if a slot's number is below 2 ^ 16 and a slot has at most 2 ^ 10 frames, the number of its first frame is below 2 ^ 32
base_fits : (slot p : ℕ) → slot < 2 ^ 16 → p ≤ 2 ^ 10 → slot * p % 2 ^ 32 ≡ slot * p
base_fits slot p few small =
    let le : slot ≤ 2 ^ 16 = omega arith in
    let most : slot * p ≤ 2 ^ 16 * p = mul-le-mul_right p le in
    omega (arith, most)

pub returns : goal.returns
returns c =
    let order : ℕ = c.args.order in
    let slot : ℕ = c.in-Some.owner.slot in
    let base : slot * 2 ^ order % 2 ^ 32 ≡ slot * 2 ^ order = base_fits slot (2 ^ order) (omega arith) (pow_mono c.requires.order) in
    let first : ℕ = c.args.first in
    let end : ℕ = c.args.end in
    let xs : List FrameKind = c.as_slice-cells.result.now in
    let begins : c.from.result * 2 ^ order % 2 ^ 32 ≡ slot * 2 ^ order = ap (λ s. s * 2 ^ order % 2 ^ 32) c.from.ensures ∙ base in
    let from : c.min-from.result ≡ min (length xs) (first - slot * 2 ^ order) =
    c.min-from.ensures ∙ ap (λ x. min (length xs) x) (c.saturating_sub.ensures ∙ ap (λ b. first - b) begins) in
    let to : c.min-to.result ≡ min (length xs) (end - slot * 2 ^ order) =
    c.min-to.ensures ∙ ap (λ x. min (length xs) x) (c.saturating_sub-2.ensures ∙ ap (λ b. end - b) begins) in
    let mine : c.in-Some.owner.tenant ≡ c.args.t = omega arith in
    ap (λ a. slice_range xs a c.min-to.result) from ∙ ap (λ b. slice_range xs (min (length xs) (first - slot * 2 ^ order)) b) to
    ∙ ap (cells_between (slot * 2 ^ order) first end) c.as_slice-cells.ensures.value
    ∙ sym (owned order c.args.t first end c.in-Some.owner c.args.sheet.now.cells.items mine)
    ∙ sym (ap (λ o. owned_cells order c.args.t first end o c.args.sheet.now.cells.items) c.in-Some.is)
