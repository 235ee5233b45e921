-- How a set of numbers is stored: bit i % 64 of word i / 64 is 1 if number i is in the set.
use Rattle.std.specs.Prelude.{◌≡◌, ◌≢◌, ℕ, ◌*◌, ◌/◌, ◌%◌, ◌<◌, ◌≤◌, ◌==◌, ◌↔◌, Bool, true, List, length, map, slice_index}
use Rattle.std.specs.Int.{bit_at}
use Rattle.std.specs.List.{range_with_len}

-- whether number i is in the set with these words
abbrev pub has : List ℕ → ℕ → Bool
has words i = bit_at (slice_index words (i / 64)) (i % 64) == 1

-- whether each number below `size` is in the set
abbrev pub members : ℕ → List ℕ → List Bool
members size words = map (has words) (range_with_len 0 size)

-- what is true of the words of every set, and of `filled`, which has a bit for each word
pub record IsBitSet (size filled : ℕ) (words : List ℕ) : Type 0 where
  pub room : size ≤ 64 * length words
  pub few : length words ≤ 64
  pub below : (i : ℕ) → has words i ≡ true → i < size
  pub bits : (w : ℕ) → w < 64 → (bit_at filled w ≡ 1) ↔ (slice_index words w ≢ 0)
