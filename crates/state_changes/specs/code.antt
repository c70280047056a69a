pub mod Index
pub mod Needed
