pub mod Lattice
pub mod Margin
pub mod Surround
pub mod Iteration
pub mod Table
pub mod Counts
pub mod Steadiness
pub mod Raising
