-- The definitions of numbered problems.
pub mod Values
pub mod Runs
pub mod Forms
pub mod Dependence
pub mod Evaluation
pub mod Work
pub mod Spreading
pub mod Plans
