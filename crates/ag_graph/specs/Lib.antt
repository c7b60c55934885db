-- Graphs, and which of their vertices lead back to themselves.
pub mod Edges
pub mod Circles
pub mod Search
