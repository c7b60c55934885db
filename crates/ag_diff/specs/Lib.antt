-- What queries about differences are, and what edges and vertices say.
pub mod Differences
pub mod Edges
pub mod Cycles
pub mod Vertices
pub mod Climbs
pub mod Fans
pub mod Waiting
pub mod Sweeps
pub mod Unfolding
pub mod Small
