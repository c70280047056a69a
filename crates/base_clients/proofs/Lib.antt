pub mod Wrote
pub mod Went
pub mod Placed
pub mod Let
pub mod Ports
