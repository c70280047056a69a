pub mod Lookups
pub mod Handed
pub mod Stages
pub mod Passing
pub mod Steps
