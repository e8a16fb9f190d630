pub mod Closing
pub mod Counting
pub mod OneResult
