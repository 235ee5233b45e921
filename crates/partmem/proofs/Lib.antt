pub mod OwnRunOutcome
pub mod NotedRun
pub mod PromisesKept
pub mod ReplayOutcome
