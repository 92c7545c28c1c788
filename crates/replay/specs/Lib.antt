pub mod Called
pub mod Tally
