pub mod WatchingLemmas
pub mod TableLemmas
pub mod DrawnTenants
pub mod SettingsRead
pub mod PeakLemmas
pub mod PeakColumns
