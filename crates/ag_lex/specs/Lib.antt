-- What the tokens of a text are, and the rules that a text may break.
pub mod Characters
pub mod Spelling
pub mod Places
pub mod Tokens
pub mod Rules
pub mod Answers
pub mod Scanning
