pub mod Span
pub mod Reading
pub mod Moved
pub mod Taking
