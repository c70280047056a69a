pub mod Forest
pub mod Over
pub mod Carried
pub mod Push
pub mod Renewal
pub mod Margins
