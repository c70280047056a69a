pub mod Records
pub mod Journals
pub mod Laws
pub mod Lives
