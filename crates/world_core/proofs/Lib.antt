pub mod MachineLists
pub mod Worlds
pub mod OwnListRuns
pub mod SameLocks
pub mod AnyOrder
pub mod Commuting
pub mod OverlappingCalls
pub mod SideBySide
pub mod ReplyLines
pub mod TenantLines
pub mod ShownReplies
pub mod Operations
pub mod MoreCaches
pub mod AskableCommands
pub mod ReachedMachines
pub mod ReachedObjects
mod WitnessesConstructed
pub mod ReachedBlock
mod ComputedTraces
pub mod Rows
pub mod Witnesses
pub mod WitnessesReached
pub mod WitnessesSideBySide
