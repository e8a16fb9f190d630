pub mod OneLimit
pub mod OneResult
mod Records
pub mod Sharing
pub mod Verdicts
