pub mod Bounds
pub mod Exact
pub mod FromSums
pub mod OneResult
pub mod Pass
