pub mod Open
pub mod Levels
