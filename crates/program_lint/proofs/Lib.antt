pub mod Ended
pub mod NoInventory
