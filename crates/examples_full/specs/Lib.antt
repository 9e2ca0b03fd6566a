pub mod FullExample
pub mod FullThree
