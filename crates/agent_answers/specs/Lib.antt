pub mod Resting
pub mod Onlooking
pub mod Wanting
pub mod Controlling
