pub mod FormCode
pub mod LiteralBits
