pub mod Asked
pub mod Heard
pub mod Shown
pub mod Passed
pub mod Beginning
