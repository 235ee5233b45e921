-- What is known of a tenant's bytes. The holder of a byte is a page block or an object. A read returns the byte that this holder
-- left at the place. If that byte is in doubt, because the block was freed or the object was given back since, the read may also
-- return the byte of a fresh holder. If the holder left nothing at the place, the read returns the byte of a fresh holder.
use Rattle.std.specs.Prelude.{ℕ, ◌+◌, ◌-◌, Bool, true, false, not, List, [], ◌∷◌, find, length, slice_index, Option, Some, None, option_map, nat_le, nat_lt, if◌then◌else◌, ◌&&◌, ◌||◌, ◌==◌}
use Rattle.std.specs.List.{list_any}
use Rattle.std.specs.Option.{option_and_then, option_map_or}
use Rattle.model_core.specs.Layouts.{pattern_byte}
use Rattle.model_core.specs.Reach.{is_within, within_block}
use Rattle.promise_core.specs.Holdings.{KnownCache, Holdings, known_cache}

-- the holder of a byte: a page block, or the object with this cache and first place, live or not
pub data Holder : Type 0 where
  Page : Holder
  Object : ℕ → ℕ → Holder

-- the holder is an object whose cache and first place pass the test
abbrev pub is_object : (ℕ → ℕ → Bool) → Holder → Bool
is_object test Holder.Page = false
is_object test (Holder.Object number first) = test number first

abbrev pub is_same : Holder → Holder → Bool
is_same Holder.Page holder = not (is_object (λ number first. true) holder)
is_same (Holder.Object number first) holder = is_object (λ n p. n == number && p == first) holder

-- what was left at a place: the holder of the byte, the byte, and whether it is surely still there
pub record Cell : Type 0 where
  pub holder : Holder
  pub byte : ℕ
  pub sure : Bool

-- what was left at each place, or None if nothing was left there, so that the byte is fresh
abbrev pub Cells : Type 0
Cells = ℕ → Option Cell

-- the byte that a fresh holder has at a place
abbrev pub known_fresh_byte : Holdings → Holder → ℕ → ℕ
known_fresh_byte h Holder.Page place = 0
known_fresh_byte h (Holder.Object number first) place =
    option_map_or (λ c. pattern_byte c.pattern (place - first)) (known_cache h number) 0

-- if this cell was left at a place, the holder may have this byte there; `fresh` is the byte that a fresh holder has there
abbrev pub may_be : Holder → ℕ → Option Cell → ℕ → Bool
may_be holder fresh None byte = byte == fresh
may_be holder fresh (Some cell) byte =
    if is_same cell.holder holder then byte == cell.byte || (not cell.sure && byte == fresh) else byte == fresh

-- the holder may have these bytes at the places from `place` on
abbrev pub may_all_be : Holdings → Cells → Holder → ℕ → List ℕ → Bool
may_all_be h cells holder place [] = true
may_all_be h cells holder place (byte ∷ bytes) =
    may_be holder (known_fresh_byte h holder place) (cells place) byte && may_all_be h cells holder (place + 1) bytes

-- the new cells when these bytes of the holder are read or written at the places from `begin` on
abbrev pub with_bytes : Holder → ℕ → List ℕ → Cells → Cells
with_bytes holder begin bytes cells place =
    if nat_le begin place && nat_lt place (begin + length bytes) then
    Some (record { holder = holder; byte = slice_index bytes (place - begin); sure = true })
    else cells place

-- the same cells, except that each one whose place and holder pass the test is in doubt
abbrev pub doubted : (ℕ → Holder → Bool) → Cells → Cells
doubted test cells place =
    option_map (λ (cell : Cell). record cell { sure = cell.sure && not (test place cell.holder) }) (cells place)

-- the cells without those whose place and holder pass the test
abbrev pub without : (ℕ → Holder → Bool) → Cells → Cells
without test cells place = option_and_then (λ (cell : Cell). if test place cell.holder then None else Some cell) (cells place)

-- the live object of one of these caches that contains the whole range, or None if there is none
abbrev pub object_with : ℕ → ℕ → List KnownCache → Option Holder
object_with place len [] = None
object_with place len (c ∷ cs) =
    option_map_or (λ first. Some (Holder.Object c.number first)) (find (λ first. is_within place len first c.size) c.live) (object_with place len cs)

-- the live page block or live object that contains the whole range; None if there is none, or if the range has no bytes
unfoldable pub holder_of : Holdings → ℕ → ℕ → Option Holder
holder_of h place len = if not (nat_lt 0 len) then None
    else (if list_any (within_block place len) h.pages then Some Holder.Page else object_with place len h.caches)
