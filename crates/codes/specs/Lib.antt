pub mod Codes
pub mod Operators
pub mod Decoding
