pub mod Steps
pub mod Gaps
pub mod Rising
