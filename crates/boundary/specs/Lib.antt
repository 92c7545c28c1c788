pub mod Heard
pub mod Reply
pub mod Sessions
pub mod Smtlib
pub mod Version
