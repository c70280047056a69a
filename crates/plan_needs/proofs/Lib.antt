pub mod Loads
pub mod HandedUp
