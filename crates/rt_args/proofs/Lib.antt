pub mod Named
pub mod TakenWords
pub mod Walks
