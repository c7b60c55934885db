-- The lemmas of this crate.
pub mod AnnexEnds
pub mod Running
pub mod Breaking
pub mod Refusals
pub mod Answering
pub mod Settling
pub mod NumbersFit
pub mod Decimals
pub mod Ending
pub mod Fitting
