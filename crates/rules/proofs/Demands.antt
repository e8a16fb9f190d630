-- Demands 2 and 3, each sentence a named theorem.
-- Assumes nothing.
pub mod Curtailed
pub mod Fractional
pub mod Limits
pub mod Three
pub mod Two
pub mod TypedBooks
pub mod WholeLot
pub mod Writing
