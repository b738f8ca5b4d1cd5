pub mod Replays
pub mod Takes
pub mod Told
