pub mod RowLaws
pub mod Bounds
