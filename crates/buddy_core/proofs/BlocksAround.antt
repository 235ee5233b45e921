-- The taken block that contains a frame begins where one of the aligned blocks around the frame begins.
use Rattle.std.proofs.Common.{sym, ◌∙◌, ap, ◌≡◌, ℕ, ◌+◌, ◌-◌, ◌*◌, ◌/◌, ◌%◌, ◌^◌, ◌<◌, ◌≤◌, Some, mod-eq_of_lt, arith}
use Rattle.std.proofs.lemmas.Nat.{pow_pos, pow-add}
use Rattle.std.proofs.Math.Nat.{div-mul-le_self, div-div-eq-div-mul, mul-div_cancel}
use Rattle.model_core.specs.Blocks.{HasFrame, block, Taken}
use Rattle.model_core.proofs.BlocksByNumber.{number_of_frame, first_is, number_is}

-- if an aligned taken block of order k contains frame x, it begins where the aligned block of order k around x begins
pub begins_around : (taken : Taken) (x f k : ℕ) → f % 2 ^ k ≡ 0 → taken f ≡ Some k → HasFrame (block f k) x → taken (x / 2 ^ k * 2 ^ k) ≡ Some k
begins_around taken x f k aligned e has =
    let here : x / 2 ^ k * 2 ^ k ≡ f = ap (λ n. n * 2 ^ k) (sym (number_is k x) ∙ number_of_frame f k x aligned has) ∙ first_is f k aligned in
    ap taken here ∙ e

pub no_wrap : (x k : ℕ) → x < 2 ^ 32 → x / 2 ^ k * 2 ^ k % 2 ^ 32 ≡ x / 2 ^ k * 2 ^ k
no_wrap x k lt = let le = div-mul-le_self x (2 ^ k) in mod-eq_of_lt (omega arith)

-- if k ≤ top, the aligned block of order k around frame x begins in the slot of x
pub same_slot : (top x k : ℕ) → k ≤ top → x / 2 ^ k * 2 ^ k / 2 ^ top ≡ x / 2 ^ top
same_slot top x k le =
    let size : 2 ^ top ≡ 2 ^ k * 2 ^ (top - k) = ap (λ n. 2 ^ n) (let e : top ≡ k + (top - k) = omega arith in e) ∙ pow-add 2 k (top - k) in
    ap (λ n. x / 2 ^ k * 2 ^ k / n) size
    ∙ sym (div-div-eq-div-mul (x / 2 ^ k * 2 ^ k) (2 ^ k) (2 ^ (top - k)))
    ∙ ap (λ n. n / 2 ^ (top - k)) (mul-div_cancel (x / 2 ^ k) (pow_pos k))
    ∙ div-div-eq-div-mul x (2 ^ k) (2 ^ (top - k))
    ∙ ap (λ n. x / n) (sym size)
