pub mod SizeLaws
pub mod AllLaws
pub mod AskLaws
pub mod FitLaws
pub mod FirstLaws
