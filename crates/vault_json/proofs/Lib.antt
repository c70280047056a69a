pub mod Bodies
pub mod Dates
pub mod DurationLaw
pub mod Durations
pub mod Plain
pub mod ReadBack
pub mod Texts
