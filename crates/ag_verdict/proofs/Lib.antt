-- The lemmas of this crate.
mod Instants
