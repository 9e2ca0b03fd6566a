pub mod Entries
pub mod Hashed
