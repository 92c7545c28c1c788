pub mod Heard
pub mod Calls
pub mod Sessions
pub mod Demand3
