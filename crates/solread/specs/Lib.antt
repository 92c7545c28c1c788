pub mod Printed
pub mod Rows
