pub mod ScopeNames
pub mod Frame
pub mod Variables
