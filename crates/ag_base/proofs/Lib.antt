-- The lemmas of this crate.
mod Ordered
