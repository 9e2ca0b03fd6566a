pub mod EntryLaws
