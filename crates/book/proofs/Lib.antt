pub mod Bounds
mod Fifth
pub mod Laid
mod Loops
pub mod OneResult
pub mod PlaceLaws
