pub mod Lines
pub mod Delivered
pub mod Judgements
pub mod Own
pub mod OneText
mod Sizes
mod OwnText
pub mod Reaching
pub mod Dated
mod Bounding
pub mod Renewals
pub mod Margins
pub mod Obeying
mod Until
mod Short
mod SameRun
