pub mod SumSections
pub mod HashLaws
pub mod HashSections
