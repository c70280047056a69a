pub mod Ordered
pub mod Fields
pub mod Staying
pub mod Printing
pub mod Words
pub mod Refusing
pub mod OneText
