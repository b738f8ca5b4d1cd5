pub mod FirstWord
pub mod Separators
pub mod Spelling
pub mod Writing
pub use Rattle.rt_stamps.specs.Fault
pub use Rattle.rt_stamps.specs.Words
