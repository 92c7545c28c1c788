pub mod PredWords
