pub mod Holders
pub mod OfKinds
