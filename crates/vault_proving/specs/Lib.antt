pub mod Verdicts
pub mod Lookups
pub mod Laws
