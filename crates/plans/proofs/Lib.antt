pub mod Letters
pub mod Master
pub mod OneResult
pub mod Shares
pub mod Standing
