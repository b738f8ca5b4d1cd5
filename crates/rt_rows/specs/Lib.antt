pub mod Places
pub mod Stored
pub mod Rows
pub mod Views
pub mod Listed
