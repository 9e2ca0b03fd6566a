pub mod LengthLaws
pub mod LineLaws
pub mod OutcomeLaws
pub mod ReadBack
