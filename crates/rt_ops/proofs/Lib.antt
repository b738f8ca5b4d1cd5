pub mod Adjacent
pub mod Fronts
pub mod InMemory
pub mod Lengths
pub mod Offsets
pub mod OneForm
pub mod Parts
pub mod Readings
pub mod Rooms
pub mod Spans
pub mod Spelled
pub mod Spells
pub mod Taken
pub mod Told
mod Unseen
pub mod Unique
