pub mod Uncurry
pub mod Flat
pub mod Operations
pub mod Compute
