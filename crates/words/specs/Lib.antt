pub mod Begins
pub mod Refusals
pub mod Answered
pub mod Quads
pub mod Spans
