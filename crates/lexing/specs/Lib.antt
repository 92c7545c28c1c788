pub mod Found
pub mod Next
pub mod Quads
pub mod TokenWords
