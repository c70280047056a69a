pub mod Slots
pub mod Index
pub mod Found
pub mod Stream
pub mod MomentLine
pub mod Laws
