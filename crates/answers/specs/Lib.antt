pub mod Meant
pub mod Answer
pub mod Judged
pub mod Compared
pub mod BothWays
