pub mod State
pub mod Looking
pub mod Hearing
