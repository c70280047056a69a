pub mod RehearseFrom
pub mod LiveFrom
pub mod Secrecy
