pub mod Inside
pub mod Holders
