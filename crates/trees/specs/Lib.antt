pub mod Trees
pub mod Partial
