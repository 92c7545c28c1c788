pub mod Pieces
pub mod Written
