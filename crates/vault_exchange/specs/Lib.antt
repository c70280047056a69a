pub mod Exchanges
pub mod Requests
pub mod Lookups
pub mod Lines
pub mod Sockets
pub mod Heard
