pub mod Choices
pub mod Limits
pub mod Ordered
pub mod Stretches
pub use Rattle.rt_stamps.specs.Places
pub use Rattle.rt_store.specs.Cells
