pub mod Parts
pub mod Margins
pub mod Behind
