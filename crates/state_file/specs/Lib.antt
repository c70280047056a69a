pub mod Order
pub mod FileText
pub mod Settled
pub mod Unread
pub mod Unwritten
pub mod Laws
