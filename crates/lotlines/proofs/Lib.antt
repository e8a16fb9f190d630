pub mod Keeping
pub mod Feeding
pub mod OneResult
