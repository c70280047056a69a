pub mod Judged
pub mod Ends
