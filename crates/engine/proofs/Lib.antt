pub mod Sizes
pub mod WholeWriting
pub mod Judging
pub mod Calls
