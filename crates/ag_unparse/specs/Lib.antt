-- The canonical text of clauses, and what it is read as.
pub mod Layout
pub mod Canonical
pub mod Printable
pub mod Depth
pub mod Same
pub mod Spelling
pub mod Rereading
pub mod Written
