pub mod TakenUp
pub mod Compacting
pub mod WhyUnserved
pub mod Asking
pub mod Due
pub mod Holders
pub mod Sharing
pub mod Recording
