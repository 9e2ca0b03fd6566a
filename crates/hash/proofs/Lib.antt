pub mod EntryLaws
pub mod SelectLaws
pub mod CellLaws
pub mod FrontLaws
pub mod HashMeaning
