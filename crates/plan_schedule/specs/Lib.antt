pub mod Forces
pub mod Given
pub mod Terms
pub mod Prospect
pub mod Courses
pub mod Queues
pub mod Laws
pub mod code
