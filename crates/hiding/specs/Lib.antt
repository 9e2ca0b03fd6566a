pub mod Masks
pub mod View
pub mod Hidden
pub mod Hiding
pub mod Alphabets
pub mod Settings
pub mod SmallHiding
