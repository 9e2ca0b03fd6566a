pub mod Statements
pub mod Demands
pub mod NoEquations
