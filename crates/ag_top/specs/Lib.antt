-- The definitions of this crate.
pub mod Trying
pub mod Commands
pub mod Keeping
pub mod Stages
pub mod Sessions
pub mod Words
pub mod Files
pub mod Refusals
pub mod Printing
pub mod Outcome
