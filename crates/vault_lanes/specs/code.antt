pub mod Ways
pub mod Courses
