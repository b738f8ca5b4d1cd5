pub mod Endings
pub mod Held
pub mod Readers
pub use Rattle.rt_files.specs.Files
pub use Rattle.rt_ops.specs.Intake
pub use Rattle.rt_stamps.specs.Fault
pub use Rattle.rt_stamps.specs.Streams
