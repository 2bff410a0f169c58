pub mod WorkRows
pub mod Steps
pub mod Masks
pub mod Lent
