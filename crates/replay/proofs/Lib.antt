pub mod Calling
pub mod Tallying
