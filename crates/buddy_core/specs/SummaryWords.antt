-- How a tenant's summary is stored: words in rows. In a row each order has a word of its set.
use Rattle.std.specs.Prelude.{ℕ, ◌+◌, ◌*◌, ◌/◌, ◌<◌, ◌≤◌, Bool, false, not, List, length, map, slice_index, slice_index_or, slice_set}
use Rattle.std.specs.List.{range_with_len}
use Rattle.buddy_core.specs.declared.summaries.TheConstants.{ROW}
use Rattle.sets_core.specs.Members.{members, IsBitSet}

-- the words of the set of order j
abbrev pub column : List ℕ → ℕ → List ℕ
column words j = map (λ g. slice_index words (g * ROW + j)) (range_with_len 0 (length words / ROW))

abbrev pub sets_of : ℕ → List ℕ → List ℕ → List (List Bool)
sets_of slots filled words = map (λ j. members slots (column words j)) (range_with_len 0 (length filled))

-- what is true of the words of every summary, and of `filled`, which has for each order a bit for each word of its set
pub record IsSummary (slots : ℕ) (filled words : List ℕ) : Type 0 where
  pub few : length filled ≤ ROW
  pub sets : (j : ℕ) → j < length filled → IsBitSet slots (slice_index filled j) (column words j)

-- the set with slot u put in if it is not in, and taken out if it is
abbrev pub flipped : List Bool → ℕ → List Bool
flipped set u = slice_set set u (not (slice_index_or set u false))
