pub mod Entries
pub mod Chains
pub mod Placed
pub mod Carrying
pub mod Names
pub mod Margins
pub mod Ranges
