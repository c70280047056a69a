pub mod Making
pub mod MarginMaking
pub mod CheckAnswers
