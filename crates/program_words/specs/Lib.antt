pub mod Places
pub mod Numbers
pub mod Refusals
pub mod Advice
