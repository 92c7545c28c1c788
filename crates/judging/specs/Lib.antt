pub mod Judge
pub mod Ends
pub mod Spelled
