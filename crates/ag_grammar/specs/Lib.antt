-- What a grammar is, which texts it has, and the test that one terminal ahead tells how to go on.
pub mod Grammar
pub mod Texts
pub mod Deterministic
pub mod Founded
pub mod Answers
pub mod Reading
pub mod Example
