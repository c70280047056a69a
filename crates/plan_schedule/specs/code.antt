pub mod Line
pub mod Groups
pub mod Stretches
pub mod Scanning
pub mod Sound
pub mod Queueing
