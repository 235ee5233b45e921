pub mod BlockRows
pub mod BlockHalves
pub mod BlockTakenOut
pub mod BlocksByNumber
pub mod FreeBlocks
pub mod BuddyJoins
pub mod BlockChoice
pub mod CountBelow
mod LayoutRows
mod RowAnswers
mod PageRows
mod CacheRows
mod ReapingRows
pub mod Layouts
pub mod Lists
pub mod RisingLists
pub mod ReapingByNeed
pub mod Outcomes
pub mod BlocksApart
pub mod ChosenBlock
pub mod TakenSteps
pub mod LaidSlabs
pub mod MemoryKept
pub mod SlabAmongOthers
pub mod PageSteps
pub mod CacheSteps
pub mod Objects
pub mod ByteSteps
pub mod WellFormedRuns
pub mod ObjectsApart
pub mod SlabBlocks
pub mod ConstructedObjects
pub mod ConstructedRuns
pub mod BytesStay
pub mod WritesAlone
pub mod SlabsLeave
pub mod VacantBlocks
pub mod Room
pub mod Witnesses
mod WitnessesObjects
mod WitnessesBlocks
