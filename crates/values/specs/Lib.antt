pub mod Said
pub mod Chain
pub mod Kinds
pub mod Signals
