pub mod Asking
pub mod Told
pub mod Sending
pub mod InStep
pub mod Handing
pub mod Laws
