mod Seconds
mod Calendar
mod Pieces
mod Zones
mod Stamps
pub mod Moments
