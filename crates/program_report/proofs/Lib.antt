pub mod Counting
pub mod Fronts
pub mod Pieces
pub mod Reporting
