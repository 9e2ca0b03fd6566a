pub mod FormSums
pub mod Pieces
