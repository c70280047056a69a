pub mod Firsts
pub mod Pauses
