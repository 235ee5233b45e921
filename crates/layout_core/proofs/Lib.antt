pub mod ObjectByChunk
pub mod ObjectsFit
pub mod PatternBytes
pub mod SlabOrders
pub mod RepeatedBytes
pub mod Reciprocals
pub mod Witnesses
