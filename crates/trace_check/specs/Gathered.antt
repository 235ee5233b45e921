-- Bytes that come in pieces and are gathered in a buffer.
use Rattle.std.specs.Prelude.{◌≡◌, ℕ, nat_lt, if◌then◌else◌, List, ◌++◌, length, take, Option, Some, None}
use Rattle.trace_check.specs.declared.gathered.Gathered.{Gathered}

-- `held` has the first `most` of the bytes that came, and `longer` is true if more than `most` bytes came
pub record Gathers (most : ℕ) (came : List ℕ) (g : Gathered most) : Type 0 where
  pub front : g.held.items ≡ take most came
  pub longer : g.longer ≡ nat_lt most (length came)

-- these bytes were added to what had come
abbrev pub HasAdded : (most : ℕ) → List ℕ → (old new : Gathered most) → Type 0
HasAdded most bytes old new = (front : List ℕ) → Gathers most front old → Gathers most (front ++ bytes) new

-- all of the bytes, or None if there are more than `most` of them
abbrev pub whole_of : ℕ → List ℕ → Option (List ℕ)
whole_of most came = if nat_lt most (length came) then None else Some came
