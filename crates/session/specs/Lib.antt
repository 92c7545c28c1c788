pub mod Session
pub mod Compared
pub mod Compute
