pub mod Forms
pub mod Batch
