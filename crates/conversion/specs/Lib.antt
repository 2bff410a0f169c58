pub mod Relaid
pub mod Lent
