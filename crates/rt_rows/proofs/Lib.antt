pub mod InRows
pub mod Following
pub mod Lists
