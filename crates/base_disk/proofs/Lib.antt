pub mod Moments
mod Runs
pub mod Torn
mod Left
