pub mod Content
pub mod Changes
