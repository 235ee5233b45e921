pub mod Raw
pub mod Places
pub mod Lists
pub mod Laws
pub mod Links
pub mod Writes
