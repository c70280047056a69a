pub mod Seen
pub mod Scripts
pub mod Times
pub mod Rests
pub mod Laws
