pub mod Corrected
pub mod Lent
