pub mod CellLemmas
pub mod MarkLemmas
pub mod PictureLemmas
pub mod TextLemmas
pub mod JoinedTexts
