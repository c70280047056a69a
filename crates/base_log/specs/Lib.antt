pub mod Lines
pub mod Waiting
pub mod Sinks
pub mod Turns
pub mod Following
pub mod Keys
pub mod Forms
