pub mod Outcomes
pub mod Told
pub mod Saying
pub mod Replying
pub mod Whole
pub mod Meetable
pub mod RuledOut
pub mod Solved
