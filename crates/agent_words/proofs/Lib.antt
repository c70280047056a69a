pub mod Behind
pub mod Pieces
pub mod NeedLines
pub mod Filled
pub mod Gathering
pub mod Read
pub mod Unfilled
pub mod Faulty
