pub mod Raised
pub mod Paper
