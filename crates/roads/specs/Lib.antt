pub mod Roads
pub mod BothWays
