mod Checking
mod Laying
mod Mapped
pub mod OneResult
mod Telling
