pub mod ArrayLaws
pub mod MirrorLaws
pub mod PlaceLaws
pub mod SetLaws
