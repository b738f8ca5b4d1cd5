pub mod Borders
pub mod Ends
pub mod Examples
pub mod Parts
pub mod Searches
pub mod Walks
pub mod Windows
pub use Rattle.rt_store.specs.Cells
