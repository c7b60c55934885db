-- Lemmas.
pub mod Held
pub mod Merges
pub mod Parts
pub mod Scaled
pub mod Wide
