pub mod Answers
pub mod Lines
pub mod CertificateText
pub mod Reading
pub mod Printing
pub mod Laws
pub mod FirstFault
