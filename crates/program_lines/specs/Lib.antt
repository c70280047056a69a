pub mod Hearing
pub mod Listening
pub mod Text
pub mod EventLines
pub mod code
