pub mod Exits
pub mod Sent
pub mod FaultLine
pub mod Told
