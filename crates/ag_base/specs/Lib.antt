-- The definitions of this crate.
pub mod Range
pub mod Limits
pub mod Status
pub mod Rules
pub mod Outside
pub mod Memory
pub mod Halts
