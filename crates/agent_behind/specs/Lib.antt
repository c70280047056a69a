pub mod Lookups
pub mod Lookouts
pub mod Behinds
pub mod Laws
