pub mod Symbols
pub mod Numbered
