pub mod Passes
pub mod Keeping
pub mod Waking
pub mod Hearing
