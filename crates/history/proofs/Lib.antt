pub mod Listing
pub mod OneResult
