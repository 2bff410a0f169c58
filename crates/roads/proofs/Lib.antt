pub mod Passing
pub mod AcceptedRoads
pub mod Ways
pub mod SameRoads
pub mod BothWays
