pub mod OpenedLaws
pub mod OpenedMeaning
