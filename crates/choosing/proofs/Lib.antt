mod Sizes
pub mod OneResult
pub mod Supplies
