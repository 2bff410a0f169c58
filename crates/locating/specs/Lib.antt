pub mod Starts
pub mod Located
