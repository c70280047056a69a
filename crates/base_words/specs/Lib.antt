pub mod Numbers
pub mod Pieces
pub mod Laws
pub mod code
pub mod Texts
