pub mod Replicas
pub mod Told
