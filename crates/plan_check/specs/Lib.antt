pub mod Kept
pub mod Walk
pub mod Fit
pub mod Answer
pub mod Laws
pub mod code
