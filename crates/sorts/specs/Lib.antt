pub mod SortNames
pub mod Rows
pub mod Outcome
