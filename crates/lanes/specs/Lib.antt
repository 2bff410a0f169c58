pub mod Lanes
pub mod Strips
pub mod Rows
pub mod EndLaws
