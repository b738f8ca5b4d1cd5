pub mod AsBox
pub mod Saying
