pub mod Handing
pub mod Lent
