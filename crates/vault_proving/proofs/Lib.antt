pub mod Alone
pub mod Spoken
pub mod InTime
