pub mod Surround
pub mod Runs
pub mod Blocks
pub mod Lent
