-- Control records: one bit for each object of a slab, 1 if the object is live. Object i has bit i % 8 of byte i / 8.
use Rattle.std.specs.Prelude.{ℕ, ◌+◌, ◌==◌, Bool, zero, suc, List, [], ◌∷◌, if◌then◌else◌}
use Rattle.std.specs.Int.{bit_at}

abbrev pub is_set : ℕ → ℕ → Bool
is_set byte j = bit_at byte j == 1

-- the list of the test's results for the n numbers from k on
abbrev pub flags_from : ℕ → ℕ → (ℕ → Bool) → List Bool
flags_from k zero test = []
flags_from k (suc n) test = test k ∷ flags_from (suc k) n test

-- the list of the test's results for all numbers below n
abbrev pub flags : ℕ → (ℕ → Bool) → List Bool
flags n test = flags_from 0 n test

-- the number of flags that are true
abbrev pub count_true : List Bool → ℕ
count_true [] = 0
count_true (b ∷ bs) = (if b then 1 else 0) + count_true bs
