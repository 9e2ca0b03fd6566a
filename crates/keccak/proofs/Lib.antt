pub mod FlagLaws
pub mod LinearLaws
pub mod ChiLaws
