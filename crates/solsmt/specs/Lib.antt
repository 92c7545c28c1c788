pub mod Script
pub mod Rows
