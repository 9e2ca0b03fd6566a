pub mod Products
pub mod DegreeLaws
pub mod Moduli
