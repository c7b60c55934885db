-- Values of constants, and rows, with their operators and limits.
pub mod RowOrder
pub mod Rows
pub mod Values
