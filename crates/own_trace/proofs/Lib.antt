pub mod OwnListAlone
pub mod KeptLines
pub mod OneMoreLine
pub mod Superblocks
pub mod Witnesses
