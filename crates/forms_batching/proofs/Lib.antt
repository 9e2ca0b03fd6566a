pub mod FormLaws
pub mod StackLaws
pub mod PartLaws
pub mod LineLaws
pub mod VectorLaws
