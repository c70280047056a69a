pub mod Unheard
mod SameRehearsal
