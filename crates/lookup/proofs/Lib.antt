pub mod Walk
pub mod Exactly
