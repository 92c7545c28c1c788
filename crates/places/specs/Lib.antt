pub mod Spot
pub mod Outcome
