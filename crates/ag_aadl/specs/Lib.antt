-- The grammar of packages, the rules on its derivations, and what they declare.
pub mod Terminals
pub mod Nonterminals
pub mod Productions
pub mod Page
pub mod Certificate
pub mod Grammar
pub mod Words
pub mod Marks
pub mod Marked
pub mod Rules
pub mod Unsupported
pub mod Names
pub mod Meaning
pub mod Files
pub mod Plainly
