pub mod VarTexts
pub mod VarLoop
