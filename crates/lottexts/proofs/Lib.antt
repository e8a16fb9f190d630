pub mod Texts
pub mod Printing
pub mod OneResult
