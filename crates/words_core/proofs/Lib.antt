mod CaseLemmas
pub mod LineLemmas
mod ReportLemmas
pub mod TextLemmas
mod WordLemmas
mod Witnesses
mod DigitLemmas
mod HexLemmas
