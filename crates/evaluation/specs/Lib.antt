pub mod Writing
pub mod Line
pub mod Lines
pub mod Lent
pub mod Walk
