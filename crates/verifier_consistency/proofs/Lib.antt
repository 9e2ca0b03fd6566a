pub mod ConsistencyMeaning
pub mod RowLaws
