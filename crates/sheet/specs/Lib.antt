pub mod Layout
pub mod Recording
pub mod Alike
pub mod Checking
pub mod Survey
