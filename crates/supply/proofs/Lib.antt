pub mod Laws
pub mod OneResult
