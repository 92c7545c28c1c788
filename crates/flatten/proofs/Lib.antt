pub mod Parsed
pub mod Decided
