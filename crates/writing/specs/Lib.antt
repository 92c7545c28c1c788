pub mod Laid
pub mod Wrote
pub mod Digits
pub mod Quads
pub mod Compute
