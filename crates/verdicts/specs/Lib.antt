pub mod Rows
pub mod Around
