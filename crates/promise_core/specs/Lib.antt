pub mod Names
pub mod Holdings
pub mod Lying
pub mod Bytes
pub mod State
pub mod Promises
pub mod Laws
