pub mod Outside
pub mod Least
pub mod Masks
pub mod Settling
pub mod SheetRoads
pub mod Rules
