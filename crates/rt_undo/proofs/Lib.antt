pub mod Following
pub mod Copying
pub mod Histories
pub mod Still
pub mod Dropping
pub mod Told
