-- How canonical text stands on its lines, what annexes state, which text packages have, how it is written, and what it declares.
pub mod Layout
pub mod Annexes
pub mod Canonical
pub mod Written
pub mod Printable
pub mod Spelling
pub mod Same
pub mod Rereading
pub mod Printed
pub mod Shares
