pub mod Gf256
pub mod Gf16
pub mod Products
pub mod Degrees
