-- Expressions by the lines of their grammar, and how far an operand behind an `else` reaches.
pub mod Lines
pub mod Reach
