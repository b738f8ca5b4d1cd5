pub mod CountBytes
pub mod SpacedLaws
