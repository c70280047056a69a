pub mod Cut
pub mod LineByLine
pub mod LinesRead
pub mod Wording
