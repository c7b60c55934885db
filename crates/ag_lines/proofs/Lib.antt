-- The lemmas of this crate.
pub mod Ranks
pub mod Levels
pub mod Joining
pub mod Flat
pub mod Reaching
pub mod Names
pub mod FlatReading
pub mod Parsing
pub mod Deriving
pub mod AsMarked
pub mod EachExpression
pub mod Allowing
pub mod Obeying
pub mod Completing
pub mod FarReading
pub mod FarLines
