pub mod BlockLaws
pub mod RowLaws
pub mod ElementLaws
pub mod EquationsMeaning
