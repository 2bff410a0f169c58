pub mod Distances
pub mod Reach
pub mod Reached
pub mod Examples
