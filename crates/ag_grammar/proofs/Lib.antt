pub mod Sets
pub mod Laws
pub mod Productive
pub mod Reaching
pub mod Finishing
