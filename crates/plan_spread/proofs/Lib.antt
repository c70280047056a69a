pub mod Rooms
pub mod Fronts
