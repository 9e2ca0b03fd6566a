pub mod LoadedLaws
pub mod BatchSections
