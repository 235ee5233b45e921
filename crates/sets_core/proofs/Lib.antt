pub mod OneNumber
pub mod InsertedRemoved
pub mod LeastNumber
pub mod AllNumbers
