-- Parts of a text that consist of pairs of hex digits, and the bytes that they encode.
use Rattle.std.specs.Prelude.{◌≡◌, ℕ, List, Ok, slice_range}
use Rattle.hex.specs.Hex.{decode_pairs}

-- The text from index `from` up to `end` consists of pairs of hex digits that encode these bytes. `index` only affects the
-- indices in an error, so it may be any number.
abbrev pub Decodes : List ℕ → ℕ → ℕ → List ℕ → Type 0
Decodes text from end bytes = (index : ℕ) → decode_pairs index (slice_range text from end) ≡ Ok bytes
