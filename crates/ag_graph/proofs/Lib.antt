-- Lemmas.
pub mod Cutting
pub mod Building
pub mod Paths
pub mod Marks
pub mod Opening
pub mod Following
pub mod Finishing
pub mod Closing
pub mod Answering
