pub mod Unkeepables
pub mod Walking
pub mod Nexts
pub mod Wanted
pub mod Collecting
pub mod Deciding
pub mod Widening
