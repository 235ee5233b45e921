-- The slots of a tenant that the columns of a picture show.
use Rattle.std.specs.Prelude.{◌≡◌, ℕ, ◌+◌, List, Some, Any}
use Rattle.frame_picture.specs.declared.history.Column.{Column}
use Rattle.frame_picture.specs.declared.history.Sheet.{Sheet}

-- the sheet shows this slot of tenant t
abbrev pub IsSheetOf : ℕ → ℕ → Sheet → Type 0
IsSheetOf t slot sheet = sheet.owner ≡ Some (record { tenant = t; slot = slot })

-- a sheet of the column shows this slot
abbrev pub HasSlot : ℕ → ℕ → Column → Type 0
HasSlot t slot column = Any (IsSheetOf t slot) column.sheets.items

-- a sheet of one of the columns shows this slot
abbrev pub HaveSlot : ℕ → ℕ → List Column → Type 0
HaveSlot t slot columns = Any (HasSlot t slot) columns

-- n is 1 more than a slot for which `IsOne` is true
abbrev pub IsAbove : (ℕ → Type 0) → ℕ → Type 0
IsAbove IsOne n = (slot : ℕ) × IsOne slot × (n ≡ slot + 1)
