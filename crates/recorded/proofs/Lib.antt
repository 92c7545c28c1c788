pub mod Digits
pub mod Places
pub mod Parts
pub mod Storing
