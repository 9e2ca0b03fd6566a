pub mod BatchLaws
pub mod FormsMeaning
pub mod BlockSums
pub mod NarrowLaws
