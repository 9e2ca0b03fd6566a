pub mod Hash
pub mod Framed
