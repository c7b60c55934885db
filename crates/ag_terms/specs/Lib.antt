-- Names.
pub mod Names
