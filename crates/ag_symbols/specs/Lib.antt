-- Which names an annex sees, and how they are found.
pub mod Indexed
pub mod Seen
