pub mod Flags
pub mod Planes
