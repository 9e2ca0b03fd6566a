pub mod Verdict
pub mod Sizes
pub mod Limits
pub mod First
