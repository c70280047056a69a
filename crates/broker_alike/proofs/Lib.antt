pub mod Asking
pub mod Rows
pub mod Steps
pub mod Looks
pub mod Kept
pub mod Dated
pub mod Received
