-- The grammar of the clauses of an `agree` annex.
pub mod Terminals
pub mod Nonterminals
pub mod Productions
pub mod Marks
pub mod Page
pub mod Certificate
pub mod Grammar
pub mod Words
pub mod Operators
pub mod Nesting
pub mod Rules
pub mod Expressions
pub mod Clauses
pub mod Unsupported
pub mod Annexes
