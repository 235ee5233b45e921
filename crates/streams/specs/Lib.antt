pub mod Held
pub mod Moves
pub mod Lines
