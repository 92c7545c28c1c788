pub mod Lend
pub mod Outcomes
pub mod RowWords
pub mod ListForms
pub mod FuncShape
pub mod RowLoop
pub mod NamedSorts
