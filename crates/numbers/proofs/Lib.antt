pub mod OneResult
pub mod Readings
