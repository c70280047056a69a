pub mod Credentials
pub mod Stamps
pub mod Looking
pub mod Outcomes
