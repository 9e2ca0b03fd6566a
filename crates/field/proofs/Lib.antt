pub mod ProductLaws
pub mod MaskLaws
pub mod SizeLaws
