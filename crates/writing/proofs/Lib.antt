pub mod Laid
pub mod Wrote
pub mod Decimals
pub mod DecimalBack
pub mod Quads
pub mod Pieces
