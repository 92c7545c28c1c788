pub mod TermTexts
pub mod TermSteps
pub mod Whole
