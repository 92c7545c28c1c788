pub mod Refusals
pub mod Met
pub mod Needed
pub mod Literals
