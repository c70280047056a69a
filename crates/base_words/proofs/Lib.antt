pub mod Cutting
pub mod Digits
pub mod Numbers
pub mod Joined
pub mod Stripped
