pub mod Bookwork
pub mod Fits
pub mod Lending
pub mod OneResult
pub mod Rows
