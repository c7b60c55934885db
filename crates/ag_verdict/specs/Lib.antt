-- The definitions of this crate.
pub mod Verdicts
pub mod Within
pub mod Plain
