pub mod LaneLaws
pub mod TreeLaws
pub mod SumsMeaning
