pub mod Examples
pub mod Marks
pub mod Seen
pub mod Tables
