pub mod Answer
pub mod Front
pub mod When
pub mod Words
pub mod Requests
pub mod Replies
pub mod Laws
