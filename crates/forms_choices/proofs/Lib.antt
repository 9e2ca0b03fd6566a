pub mod ChoiceLaws
pub mod PickLaws
pub mod DigitLaws
