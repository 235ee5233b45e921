pub mod Sizes
pub mod Texts
pub mod Cells
pub mod Marks
pub mod Bands
pub mod Pictures
