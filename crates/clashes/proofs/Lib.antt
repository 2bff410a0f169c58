pub mod Disagreeing
pub mod LastBelow
pub mod Chaining
pub mod Walking
pub mod OneSample
pub mod Searching
