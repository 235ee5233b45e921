-- The object at an offset of a slab is found by dividing the offset, less the colour offset, by the chunk size.
use Rattle.std.proofs.Common.{◌≡◌, ℕ, ◌+◌, ◌-◌, ◌*◌, ◌/◌, ◌%◌, ◌<◌, ◌≤◌, refl, ap, sym, ◌∙◌, arith}
use Rattle.std.proofs.lemmas.Nat.{div-mul-add, mod-mul-add}
use Rattle.std.proofs.Math.Nat.{div-mul-le_self}
use Rattle.layout_core.specs.Cut.{Cut, numbers_of}
use Rattle.layout_core.specs.Objects.{Begins, Holds, IsOnly}

-- dividing offset - colour, which is at least 0, by the chunk size gives i and leaves the remainder `inside`
pub record IsAt (colour offset chunk i inside : ℕ) : Type 0 where
  pub behind : colour ≤ offset
  pub chunk_of : (offset - colour) / chunk ≡ i
  pub byte_of : (offset - colour) % chunk ≡ inside

pub is_at : (colour offset chunk i inside : ℕ) → colour + i * chunk + inside ≡ offset → inside < chunk → IsAt colour offset chunk i inside
is_at colour offset chunk i inside e h =
    let from : offset - colour ≡ i * chunk + inside = omega arith in
    record {
      behind = omega arith;
      chunk_of = ap (λ n. n / chunk) from ∙ div-mul-add i chunk inside h;
      byte_of = ap (λ n. n % chunk) from ∙ mod-mul-add i chunk inside h;
    }

pub begins_at : (l : Cut) (chunk colour offset i : ℕ) → chunk ≡ (numbers_of l).chunk → 0 < chunk → Begins l colour offset i
    → IsAt colour offset chunk i 0
begins_at l chunk colour offset i same some b =
    let at : i * chunk ≡ i * (numbers_of l).chunk = ap (λ n. i * n) same in
    let begins : colour + i * (numbers_of l).chunk ≡ offset = b.begins in
    is_at colour offset chunk i 0 (omega arith) some

-- if byte `from` is in chunk i, chunk i begins at this byte or before it
chunk_begins : (l : Cut) (chunk from i : ℕ) → chunk ≡ (numbers_of l).chunk → i ≡ from / (numbers_of l).chunk → i * chunk ≤ from
chunk_begins l chunk from i same is =
    let at : i * chunk ≡ from / (numbers_of l).chunk * (numbers_of l).chunk = ap (λ n. i * n) same ∙ ap (λ n. n * (numbers_of l).chunk) is in
    let least : from / (numbers_of l).chunk * (numbers_of l).chunk ≤ from = div-mul-le_self from (numbers_of l).chunk in
    omega arith

-- if `chunk` equals the layout's chunk size, dividing by either of them finds the same chunk for a byte
same_chunk : (l : Cut) (chunk colour offset from i j : ℕ) → chunk ≡ (numbers_of l).chunk → i ≡ from / (numbers_of l).chunk → from ≡ offset - colour
    → (offset - colour) / chunk ≡ j → j ≡ i
same_chunk l chunk colour offset from i j same is from_is at =
    sym at ∙ sym (ap (λ n. n / chunk) from_is) ∙ ap (λ n. from / n) same ∙ sym is

-- if `chunk` equals the layout's chunk size, and dividing by `chunk` finds a chunk of the slab for a byte, so does dividing by
-- the layout's chunk size
pub chunk_below : (l : Cut) (chunk colour offset from j : ℕ) → chunk ≡ (numbers_of l).chunk → from ≡ offset - colour → (offset - colour) / chunk ≡ j
    → j < (numbers_of l).count → from / (numbers_of l).chunk < (numbers_of l).count
chunk_below l chunk colour offset from j same from_is at below =
    let one : j ≡ from / (numbers_of l).chunk = same_chunk l chunk colour offset from _ j same refl from_is at in
    omega arith

pub begins_only : (l : Cut) (chunk colour offset from i : ℕ) → chunk ≡ (numbers_of l).chunk → 0 < chunk → i < (numbers_of l).count
    → i ≡ from / (numbers_of l).chunk → colour ≤ offset → from ≡ offset - colour → i * chunk ≡ from → IsOnly (Begins l colour offset) i
begins_only l chunk colour offset from i same some below is behind from_is whole =
    let at : i * chunk ≡ i * (numbers_of l).chunk = ap (λ n. i * n) same in
    record {
      is = record { object = below; begins = omega arith };
      only = λ j b. same_chunk l chunk colour offset from i j same is from_is (begins_at l chunk colour offset j same some b).chunk_of;
    }

-- if an object begins at a byte, the chunk that has the byte begins there too
pub begins_whole : (l : Cut) (chunk colour offset from i j : ℕ) → chunk ≡ (numbers_of l).chunk → 0 < chunk → i ≡ from / (numbers_of l).chunk
    → from ≡ offset - colour → Begins l colour offset j → i * chunk ≡ from
begins_whole l chunk colour offset from i j same some is from_is b =
    let at : j * chunk ≡ j * (numbers_of l).chunk = ap (λ n. j * n) same in
    let begins : colour + j * (numbers_of l).chunk ≡ offset = b.begins in
    let one : j ≡ i = same_chunk l chunk colour offset from i j same is from_is (begins_at l chunk colour offset j same some b).chunk_of in
    let rows : j * chunk ≡ i * chunk = ap (λ n. n * chunk) one in
    omega arith

pub holds_at : (l : Cut) (chunk colour offset len i : ℕ) → chunk ≡ (numbers_of l).chunk → l.size ≤ chunk → Holds l colour offset len i
    → (inside : ℕ) × IsAt colour offset chunk i inside × (inside + len ≤ l.size)
holds_at l chunk colour offset len i same sized h =
    let at : i * chunk ≡ i * (numbers_of l).chunk = ap (λ n. i * n) same in
    let from : colour + i * (numbers_of l).chunk ≤ offset = h.from in
    let to : offset + len ≤ colour + i * (numbers_of l).chunk + l.size = h.to in
    let some : 0 < len = h.some in
    let inside : ℕ = offset - colour - i * chunk in
    (inside, is_at colour offset chunk i inside (omega arith) (omega arith), omega arith)

pub holds_only : (l : Cut) (chunk colour offset len from i : ℕ) → chunk ≡ (numbers_of l).chunk → l.size ≤ chunk → i < (numbers_of l).count
    → i ≡ from / (numbers_of l).chunk → colour ≤ offset → from ≡ offset - colour → 0 < len → len ≤ l.size → from - i * chunk ≤ l.size - len
    → IsOnly (Holds l colour offset len) i
holds_only l chunk colour offset len from i same sized below is behind from_is some short within =
    let at : i * chunk ≡ i * (numbers_of l).chunk = ap (λ n. i * n) same in
    let begins = chunk_begins l chunk from i same is in
    record {
      is = record { object = below; some = some; from = omega arith; to = omega arith };
      only = λ j h. same_chunk l chunk colour offset from i j same is from_is (holds_at l chunk colour offset len j same sized h).1.chunk_of;
    }

-- if an object contains a range that begins at byte `from`, the range ends at most `size` bytes after the beginning of the chunk
-- that has this byte
pub holds_within : (l : Cut) (chunk colour offset len from i j : ℕ) → chunk ≡ (numbers_of l).chunk → l.size ≤ chunk → i ≡ from / (numbers_of l).chunk
    → from ≡ offset - colour → Holds l colour offset len j → from - i * chunk + len ≤ l.size
holds_within l chunk colour offset len from i j same sized is from_is h =
    let at : j * chunk ≡ j * (numbers_of l).chunk = ap (λ n. j * n) same in
    let begins : colour + j * (numbers_of l).chunk ≤ offset = h.from in
    let ends : offset + len ≤ colour + j * (numbers_of l).chunk + l.size = h.to in
    let one : j ≡ i = same_chunk l chunk colour offset from i j same is from_is (holds_at l chunk colour offset len j same sized h).1.chunk_of in
    let rows : j * chunk ≡ i * chunk = ap (λ n. n * chunk) one in
    omega arith
