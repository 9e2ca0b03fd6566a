pub mod Checked
pub mod ReadBack
