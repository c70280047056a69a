pub mod Sound
pub mod AnswersOut
pub mod InStep
pub mod Once
pub mod Changed
