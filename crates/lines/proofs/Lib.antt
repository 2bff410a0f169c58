pub mod Reading
pub mod Filled
pub mod Lines
pub mod AcceptedLines
pub mod Walk
pub mod FewWords
pub mod Moved
