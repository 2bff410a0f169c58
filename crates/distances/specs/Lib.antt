pub mod Distances
pub mod Stages
