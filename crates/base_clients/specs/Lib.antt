pub mod Calls
pub mod Doors
pub mod Entrances
pub mod Guests
pub mod Tables
