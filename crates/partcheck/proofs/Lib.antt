pub mod SettingsRead
mod CommandLineRows
pub mod FindingOfNewMachine
pub mod JoinedTexts
