-- Lemmas of this crate.
pub mod SetLemmas
pub mod Sound
pub mod Walks
pub mod Truths
pub mod Following
pub mod RowLines
pub mod Numbers
pub mod Merging
pub mod Combining
pub mod Combined
pub mod Causes
