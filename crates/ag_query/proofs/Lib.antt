-- Lemmas of this crate.
pub mod Orders
pub mod Sums
