pub mod Doors
pub mod Waits
pub mod Begun
pub mod Running
pub mod Run
