pub mod Left
pub mod Inside
pub mod Summaries
