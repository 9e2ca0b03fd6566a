pub mod ColumnLaws
pub mod ProductLaws
pub mod FrontLaws
