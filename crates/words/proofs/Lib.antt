pub mod Clip
pub mod Wides
pub mod Numbered
