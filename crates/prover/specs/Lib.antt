pub mod Loaded
pub mod Steps
