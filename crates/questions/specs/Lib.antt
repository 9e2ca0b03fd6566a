pub mod Asking
pub mod Facts
