pub mod MachineOptionsRead
pub mod ParserRefusals
pub mod CommandLineRows
pub mod SettingsRead
