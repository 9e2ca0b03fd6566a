pub mod Batched
pub mod Lines
