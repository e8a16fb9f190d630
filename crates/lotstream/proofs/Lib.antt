pub mod Putting
pub mod Onwards
pub mod Pieces
pub mod Turning
pub mod Whole
