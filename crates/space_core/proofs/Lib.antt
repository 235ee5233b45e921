mod TableLemmas
pub mod Mapping
mod BankLemmas
mod StoredBytes
pub mod EmptySpace
mod MappingKept
pub mod InvariantKept
pub mod VacantSlots
pub mod Vacancies
mod SeatLemmas
mod Places
pub mod BytesUnderSlots
mod OwnBytes
pub mod PlacesEnd
mod TenantsKept
mod UnownedBytes
pub mod SpaceLaws
pub mod Ranges
