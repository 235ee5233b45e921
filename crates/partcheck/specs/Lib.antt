pub mod Settings
pub mod Checked
pub mod Reasons
pub mod Telling
