pub mod Image
pub mod Torn
pub mod State
pub mod History
pub mod Memory
pub mod MemoryLaws
pub mod System
pub mod Left
