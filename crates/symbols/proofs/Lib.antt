pub mod OmegaLaws
