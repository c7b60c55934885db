-- Lemmas of this crate.
pub mod Truths
pub mod Naming
pub mod Equations
pub mod Passes
pub mod Ordered
pub mod Moments
pub mod Settling
pub mod Same
