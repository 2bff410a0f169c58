pub mod Tally
pub mod Sample
pub mod Written
