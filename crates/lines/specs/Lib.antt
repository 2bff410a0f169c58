pub mod Lines
pub mod GoodLines
pub mod Decoding
