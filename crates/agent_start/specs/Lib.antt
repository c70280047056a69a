pub mod Alone
pub mod Starts
pub mod Later
pub mod Telling
