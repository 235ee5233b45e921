pub mod Meets
pub mod MeetsWorld
pub mod Laws
pub mod WorldLaws
pub mod Written
