pub mod Replies
pub mod Sessions
pub mod Spoken
