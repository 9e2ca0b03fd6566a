pub mod ProductMeaning
pub mod ProductLaws
