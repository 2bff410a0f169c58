pub mod Points
pub mod Blocks
pub mod Lent
