pub mod Sent
pub mod There
