pub mod FactLaws
pub mod SizedLaws
