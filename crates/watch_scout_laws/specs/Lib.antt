pub mod Steps
pub mod Looks
pub mod Behind
pub mod RealEnds
pub mod Resting
