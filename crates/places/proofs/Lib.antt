pub mod Spots
pub mod Rows
pub mod Inside
pub mod Puts
pub mod SortPlace
pub mod Numerals
pub mod FirstTree
