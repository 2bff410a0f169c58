pub mod Tests
pub mod Lists
pub mod Totals
pub mod Settling
pub mod Folds
