-- The first byte of a read that may not be at its place.
use Rattle.std.specs.Prelude.{ℕ, ◌+◌, ◌^◌, ◌==◌, ◌&&◌, not, nat_le, if◌then◌else◌, List, [], ◌∷◌, length, Option, Some, None}
use Rattle.std.specs.Option.{option_map_or}
use Rattle.promise_core.specs.Bytes.{Cell, Cells, Holder, holder_of, is_same, known_fresh_byte, may_be}
use Rattle.promise_core.specs.Holdings.{Holdings}
use Rattle.reply_judge.specs.declared.wrong_bytes.WrongByte.{WrongByte}

-- The byte that the holder has to have where this cell was left. If that byte is in doubt, the fresh byte is the second, which may
-- be there too.
abbrev pub bytes_due : Holder → ℕ → Option Cell → ℕ × Option ℕ
bytes_due holder fresh None = (fresh, None)
bytes_due holder fresh (Some cell) = if not (is_same cell.holder holder) then (fresh, None)
    else (if cell.sure then (cell.byte, None) else (cell.byte, Some fresh))

-- the byte at the place, with the bytes that are due there, if the holder may not have it there
unfoldable pub wrong_at : Holdings → Cells → Holder → ℕ → ℕ → Option WrongByte
wrong_at h cells holder place byte =
    let fresh = known_fresh_byte h holder place in
    let due = bytes_due holder fresh (cells place) in
    if may_be holder fresh (cells place) byte then None
    else Some (record { place = place; byte = byte; due = due.0; or_fresh = due.1 })

-- the first wrong one of these bytes, which begin at `place`
abbrev pub wrong_from : Holdings → Cells → Holder → ℕ → List ℕ → Option WrongByte
wrong_from h cells holder place [] = None
wrong_from h cells holder place (byte ∷ bytes) =
    option_map_or (λ wrong. Some wrong) (wrong_at h cells holder place byte) (wrong_from h cells holder (place + 1) bytes)

-- the first wrong byte of a read of `len` bytes that begins at `place`, if one holder has all of them, and all are below 2 ^ 32
unfoldable pub wrong_byte : Holdings → Cells → ℕ → ℕ → List ℕ → Option WrongByte
wrong_byte h cells place len bytes = if nat_le (place + length bytes) (2 ^ 32)
    then option_map_or (λ holder. wrong_from h cells holder place bytes) (holder_of h place len) None else None
