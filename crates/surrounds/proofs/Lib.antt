pub mod Lowest
pub mod Tables
pub mod RunLaws
pub mod RunRows
pub mod KeptRows
pub mod Centres
pub mod BlockLaws
pub mod RunCentres
