-- The greatest number with a property, and the least power of two with a property.
use Rattle.std.specs.Prelude.{◌≡◌, ℕ, ◌^◌, ◌<◌, ◌≤◌, ◌⊎◌}

-- `greatest` is the greatest number for which `IsOne` is true, or `lowest` if no such number is greater than `lowest`
pub record IsGreatest (IsOne : ℕ → Type 0) (lowest greatest : ℕ) : Type 0 where
  pub above : lowest ≤ greatest
  pub all : (n : ℕ) → IsOne n → n ≤ greatest
  pub some : (greatest ≡ lowest) ⊎ IsOne greatest

-- `power` is the least of 2^0 to 2^15 that is enough, or `otherwise` if none of them is enough
abbrev pub IsLeastPower : (ℕ → Type 0) → ℕ → ℕ → Type 0
IsLeastPower IsEnough otherwise power =
    ((k : ℕ) × (k < 16) × (power ≡ 2 ^ k) × IsEnough (2 ^ k) × ((j : ℕ) → j < k → ¬ IsEnough (2 ^ j)))
    ⊎ ((power ≡ otherwise) × ((j : ℕ) → j < 16 → ¬ IsEnough (2 ^ j)))
