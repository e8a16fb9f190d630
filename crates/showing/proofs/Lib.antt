pub mod OneResult
mod Places
