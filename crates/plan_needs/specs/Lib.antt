pub mod Carried
pub mod code
