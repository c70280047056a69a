pub mod Collecting
pub mod Wanted
pub mod FallingShort
pub mod Widening
