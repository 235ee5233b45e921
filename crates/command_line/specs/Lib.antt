pub mod Arguments
pub mod Files
pub mod MachineOptions
pub mod Outcome
pub mod Progress
pub mod Settings
