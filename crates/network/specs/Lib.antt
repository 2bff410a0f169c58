pub mod Distance
pub mod Network
