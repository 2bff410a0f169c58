pub mod Chains
pub mod Listed
