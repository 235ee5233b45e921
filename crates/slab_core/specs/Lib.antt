pub mod Calls
pub mod Objects
pub mod Fitting
pub mod Lending
pub mod Reaching
pub mod Taking
pub mod Giving
