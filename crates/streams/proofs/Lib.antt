pub mod MoveLemmas
pub mod LineLemmas
