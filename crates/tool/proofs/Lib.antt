pub mod Whole
pub mod Leaving
