pub mod Names
pub mod Order
pub mod Writes
