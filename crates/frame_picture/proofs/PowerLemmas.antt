-- The least power of two that is enough.
use Rattle.std.proofs.Common.{◌≡◌, ℕ, ◌*◌, ◌%◌, ◌^◌, ◌<◌, ◌≤◌, subst, ◌∙◌, inl, inr, arith}
use Rattle.std.proofs.Math.Pow.{pow_mono}
use Rattle.frame_picture.specs.Bounds.{IsLeastPower}

-- if p is below 16, shifting 1 by p bits gives 2 ^ p
pub shifted : (p : ℕ) → p < 16 → 1 * 2 ^ p % 2 ^ 32 ≡ 2 ^ p
shifted p few = let le : p ≤ 16 = omega arith in let small : 2 ^ p ≤ 2 ^ 16 = pow_mono le in omega (arith, small)

-- if 2 ^ p, with p below 16, is enough, and no smaller power of two is, it is the least power that is enough
pub first_power : (IsEnough : ℕ → Type 0) (otherwise p power : ℕ) → p < 16 → power ≡ 1 * 2 ^ p % 2 ^ 32 → IsEnough power
    → ((j : ℕ) → j < p → ¬ IsEnough (2 ^ j)) → IsLeastPower IsEnough otherwise power
first_power IsEnough otherwise p power few is enough least =
    let value : power ≡ 2 ^ p = is ∙ shifted p few in
    inl (p, few, value, subst IsEnough value enough, least)

-- if no power of two below 2^16 is enough, `IsLeastPower` is true of `otherwise`
pub no_power : (IsEnough : ℕ → Type 0) (otherwise power : ℕ) → power ≡ otherwise → ((j : ℕ) → j < 16 → ¬ IsEnough (2 ^ j))
    → IsLeastPower IsEnough otherwise power
no_power IsEnough otherwise power is none = inr (is, none)
