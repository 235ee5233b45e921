-- How the bytes of RAM are stored. After a grant a superblock has no stored bytes, and reads as zero, until it is first written or
-- lent for writing.
use Rattle.std.specs.Prelude.{◌≡◌, ℕ, ◌^◌, ◌<◌, ◌≤◌, List, [], ◌∷◌, map, replicate}
use Rattle.std.specs.List.{All}
use Rattle.std.specs.Global.{Vec}
use Rattle.std.specs.Vec.{vec_capacity}

-- the bytes of a superblock with these stored bytes: if none are stored, `unit` zeros
abbrev pub or_zeros : ℕ → List ℕ → List ℕ
or_zeros unit [] = replicate unit 0
or_zeros unit (x ∷ xs) = x ∷ xs

abbrev pub shown_banks : ℕ → List (List ℕ) → List (List ℕ)
shown_banks unit stored = map (or_zeros unit) stored

-- the vector of each superblock has capacity for at least `unit` bytes
abbrev pub HaveCapacity : ℕ → List (Vec ℕ) → Type 0
HaveCapacity unit banks = All (λ bank. unit ≤ vec_capacity bank) banks

-- what is true of the vectors of every `Space`, and of `bits`, the number of bits of an offset in a superblock
pub record IsStored (unit bits : ℕ) (banks : List (Vec ℕ)) (zeros : List ℕ) : Type 0 where
  pub few : bits < 32
  pub size : unit ≡ 2 ^ bits
  pub capacity : HaveCapacity unit banks
  pub blank : zeros ≡ replicate unit 0
