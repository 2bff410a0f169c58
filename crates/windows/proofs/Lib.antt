pub mod Folds
pub mod Windows
pub mod Carried
pub mod Later
pub mod Parts
pub mod Bounds
