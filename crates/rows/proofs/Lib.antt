pub mod SpareLaws
pub mod ElementLaws
