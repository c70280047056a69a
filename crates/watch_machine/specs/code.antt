pub mod Bounds
pub mod View
pub mod Rounds
pub mod Places
pub mod Outlook
pub mod Lull
pub mod Line
pub mod Watching
