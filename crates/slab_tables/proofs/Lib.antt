pub mod LiveTotals
pub mod TableReads
pub mod InvariantKept
pub mod CacheNumberBound
pub mod ListEmptied
pub mod CachesCleared
pub mod SlabsMoved
pub mod KeyedListWalk
