pub mod Ranges
pub mod Lent
