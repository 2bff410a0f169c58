pub mod Corrections
pub mod Aimed
pub mod Naming
