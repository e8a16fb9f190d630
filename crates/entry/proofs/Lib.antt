pub mod AnyKind
pub mod OneResult
mod Seven
