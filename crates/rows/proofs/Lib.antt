pub mod AnyRow
pub mod Stores
pub mod Laid
pub mod Shown
pub mod Walked
