pub mod RectanglesCover
pub mod ColumnLines
pub mod ListFilled
pub mod Greatest
pub mod PowerLemmas
pub mod RowLemmas
pub mod SlotLemmas
pub mod OwnedLemmas
