pub mod PartsWords
