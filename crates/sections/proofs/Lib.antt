pub mod SectionLaws
pub mod SpanLaws
pub mod ReadingLaws
pub mod Writes
pub mod ReaderLaws
