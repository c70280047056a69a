mod Readings
pub mod Steps
mod Writing
pub mod Runs
mod Lives
