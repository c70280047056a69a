pub mod Rfc3339
pub mod MomentOf
