-- What a solver answers.
pub mod Decides
