pub mod Notes
pub mod Outcome
pub mod Own
pub mod Promised
pub mod Run
