pub mod Renames
pub mod Actions
pub mod Undo
pub mod Copies
pub mod Groups
pub mod Flag
pub mod Seen
pub mod Examples
