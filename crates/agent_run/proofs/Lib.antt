pub mod Having
mod Asking
mod Putting
mod Runs
mod Waiting
