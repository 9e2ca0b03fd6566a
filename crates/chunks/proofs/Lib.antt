pub mod BitSumLaws
pub mod HalfLaws
pub mod PassLaws
pub mod TurnLaws
pub mod PrefixLaws
pub mod PartLaws
