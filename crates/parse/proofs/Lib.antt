pub mod ReadTree
pub mod Answered
pub mod Ended
pub mod Drafts
