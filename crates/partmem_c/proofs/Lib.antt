mod FigureLemmas
pub mod ReadLemmas
mod FreeLemmas
mod LendLemmas
mod BlockLemmas
mod RawBoxValues
mod KernelCellSteps
pub mod TextLemmas
mod FitLemmas
pub mod CallLemmas
pub mod ActionLemmas
pub mod CallsAnyOrder
pub mod EventLemmas
mod Witnesses
mod WitnessesActions
mod WitnessesCalls
mod WitnessesCallLocks
