pub mod Lookups
pub mod Lanes
pub mod Handing
pub mod Leaving
pub mod Truly
pub mod Later
pub mod Resting
