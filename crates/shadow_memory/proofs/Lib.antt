pub mod Places
pub mod StepsByPlace
pub mod ReplyChanges
pub mod SlotsHeld
pub mod ReadBytes
pub mod RangeChanges
pub mod UnstoredPlaces
