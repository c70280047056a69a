pub mod FirstLimit
pub mod GoodOnes
pub mod Steps
pub mod Names
pub mod Said
pub mod Alike
