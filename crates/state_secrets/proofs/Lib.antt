pub mod Passing
pub mod Placing
pub mod Staying
