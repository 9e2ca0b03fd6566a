pub mod Sums
pub mod Rows
pub mod Products
pub mod Words
pub mod Shared
