pub mod Reach
pub mod Rows
pub mod Groups
pub mod Carried
pub mod Reading
