pub mod Limits
pub mod Checked
pub mod Heads
pub mod Faults
pub mod Kinds
pub mod Said
