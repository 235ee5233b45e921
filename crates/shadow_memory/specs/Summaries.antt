-- Which left bytes a summary allows, and how a change affects the stored bytes of a range.
use Rattle.std.specs.Prelude.{◌≡◌, ℕ, ◌+◌, ◌/◌, ◌<◌, ◌≤◌, true, false, List, Option, Some, None, slice_index_or}
use Rattle.promise_core.specs.Bytes.{Holder, Cell}
use Rattle.known_holdings.specs.Holders.{shown_holder}
use Rattle.shadow_memory.specs.declared.kept.KeptByte.{KeptByte}
use Rattle.shadow_memory.specs.declared.summary.Summary.{Summary}
use Rattle.shadow_memory.specs.declared.summary.Owners.{Owners}
use Rattle.shadow_memory.specs.Inside.{CellStep, shown_kept}

-- the holder is one of these owners
abbrev pub MayOwn : Owners → Holder → Type 0
MayOwn Owners.Nobody holder = ⊥
MayOwn (Owners.One one) holder = holder ≡ shown_holder one
MayOwn (Owners.Objects number) holder = (first : ℕ) × (holder ≡ Holder.Object number first)
MayOwn Owners.Any holder = Unit {0}

-- Nothing was left, or a byte of one of the summary's owners was left. If the summary is not sure, this byte is in doubt.
abbrev pub IsSummarizedBy : Summary → Option Cell → Type 0
IsSummarizedBy summary None = Unit {0}
IsSummarizedBy summary (Some cell) = MayOwn summary.owners cell.holder × (summary.sure ≡ false → cell.sure ≡ false)

-- the summary that allows every byte
abbrev pub any_summary : Summary
any_summary = record { owners = Owners.Any; sure = true }

-- what was left at index `k` of these stored bytes
abbrev pub cell_in : List KeptByte → ℕ → Option Cell
cell_in cells k = shown_kept (slice_index_or cells k KeptByte.Fresh)

-- each summary allows what was left in its group of `size` places
abbrev pub AreSummarized : ℕ → List Summary → List KeptByte → Type 0
AreSummarized size summaries cells = (k : ℕ) → IsSummarizedBy (slice_index_or summaries (k / size) any_summary) (cell_in cells k)

-- `new` is `old` after the step at each index from `low` to `high - 1`; index 0 is the place `first`
pub record IsChanged (step : CellStep) (first low high : ℕ) (old new : List KeptByte) : Type 0 where
  pub before : (k : ℕ) → k < low → cell_in new k ≡ cell_in old k
  pub inside : (k : ℕ) → low ≤ k → k < high → cell_in new k ≡ step (first + k) (cell_in old k)
  pub behind : (k : ℕ) → high ≤ k → cell_in new k ≡ cell_in old k
