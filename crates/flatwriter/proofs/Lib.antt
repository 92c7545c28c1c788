pub mod Counted
pub mod WriteSteps
