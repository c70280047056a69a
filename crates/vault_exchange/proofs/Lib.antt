pub mod Lengths
pub mod Answered
pub mod Sendable
pub mod Looked
pub mod Counted
