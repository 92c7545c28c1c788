pub mod WordsRead
pub mod SortTexts
pub mod SortViews
pub mod EndTexts
pub mod SortStack
pub mod SortLoop
