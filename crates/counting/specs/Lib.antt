pub mod Totals
pub mod Lists
