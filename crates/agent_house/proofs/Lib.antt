pub mod Told
pub mod Givers
pub mod Admits
pub mod Attended
pub mod Wanting
