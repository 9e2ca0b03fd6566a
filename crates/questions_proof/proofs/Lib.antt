pub mod SolvedLaws
pub mod ProofLaws
