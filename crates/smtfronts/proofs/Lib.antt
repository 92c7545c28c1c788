pub mod FrontsTerm
pub mod FrontsFormed
pub mod FrontsNode
pub mod FrontsSeams
pub mod FrontsRest
pub mod FrontsSteps
