-- What a search answers, and what it keeps on the way.
pub mod Facts
pub mod Answers
pub mod Trail
pub mod Keeping
pub mod Listing
pub mod Going
