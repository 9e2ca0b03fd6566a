pub mod StateLaws
pub mod WordLaws
pub mod MixLaws
pub mod PieceLaws
pub mod EmitLaws
