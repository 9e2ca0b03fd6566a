pub mod Chunks
pub mod Turns
pub mod Subsets
