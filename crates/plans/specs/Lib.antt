pub mod Late
pub mod Plans
pub mod BinderWords
pub mod Whole
