pub mod RisingKeys
pub mod ComputedTests
pub mod CachesByNumber
pub mod SlabPlaces
pub mod SlabMarks
pub mod VacantBlockMarks
pub mod PageBlocks
