pub mod Turns
pub mod Small
pub mod Aiming
