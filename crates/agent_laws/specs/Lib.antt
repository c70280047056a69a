pub mod Tried
pub mod Disks
pub mod Alike
pub mod Acknowledged
pub mod Heard
pub mod Decided
pub mod Keepers
