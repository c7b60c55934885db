-- What rows, literals, clauses and queries say.
pub mod Rows
pub mod Meaning
pub mod Made
pub mod AtomsOver
pub mod Answers
