pub mod Planned
pub mod Shortfall
pub mod Decides
pub mod Widest
pub mod code
