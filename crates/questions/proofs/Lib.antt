pub mod KeyLaws
pub mod AnswerLaws
