-- How a link is stored in four bytes: 2^32 - 1 means that there is none.
use Rattle.std.specs.Prelude.{◌≡◌, ℕ, ◌-◌, ◌^◌, ◌==◌, Option, Some, None, if◌then◌else◌}
use Rattle.std.proofs.Common.{sym, refl, inl, inr}
use Rattle.std.proofs.lemmas.Bool.{cases_eq, eq-eqb, ne_eqb}

abbrev pub to_option : ℕ → Option ℕ
to_option raw = if raw == 2 ^ 32 - 1 then None else Some raw

abbrev pub to_raw : Option ℕ → ℕ
to_raw None = 2 ^ 32 - 1
to_raw (Some i) = i

pub raw_stays : (raw : ℕ) → to_raw (to_option raw) ≡ raw
raw_stays raw = elim (cases_eq raw (2 ^ 32 - 1)) [
  | inl e ↦ rw (eq-eqb raw (2 ^ 32 - 1) e) (sym e)
  | inr ne ↦ rw (ne_eqb raw (2 ^ 32 - 1) ne) refl
]

-- the list and key of a node with these fields, or None if it is in no list
abbrev pub raw_place : Option ℕ → ℕ → Option (ℕ × ℕ)
raw_place None key = None
raw_place (Some list) key = Some (list, key)
