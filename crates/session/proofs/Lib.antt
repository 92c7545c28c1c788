pub mod Terms
pub mod Made
pub mod Calls
pub mod Meetable
pub mod Unreported
