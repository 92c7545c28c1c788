pub mod Answers
pub mod DraftAnswers
pub mod TreeOf
